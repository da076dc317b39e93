-- How a run of a service starts, and how it ends.
use Rattle.std.specs.Prelude.{ℕ, List, Option, Result}
use Rattle.stomp_wire.specs.declared.fault.LinkFault.{LinkFault}
use Rattle.activities.specs.Service.{Service}
use Rattle.keep.specs.Seen.{Seen}
use Rattle.keep.specs.Tables.{Tables}
use Rattle.told_lock.specs.Rule.{Every}
use Rattle.shared_endpoint.specs.Keys.{shown_hand}
use Rattle.service_workers.specs.Conns.{or_was, IsGiven}
use Rattle.service_workers.specs.Handed.{AreGoodWhile}
use Rattle.service_workers.specs.Owing.{OwesIf}
use Rattle.service_workers.specs.Reads.{IsReadIf}
use Rattle.service_workers.specs.Written.{HasSpokenIf}
use Rattle.service_workers.specs.declared.conn.Conn.{Conn}
use Rattle.service_workers.specs.declared.ended.Ended.{Ended}
use Rattle.service_workers.specs.declared.handed.Tokens.{Tokens}

module _ {L : Type 0} (put_gives : L → List ℕ → Result ℕ LinkFault → L → Type 0)
    (take_gives : L → ℕ → Result (List ℕ) LinkFault → L → Type 0) {E S C : Type 0} (seen : E → Seen (Tables S C))
    (service : Service S C) where
  -- How a run starts that is named so: while its name is sound the tokens are good, these connections have spoken by what
  -- was shown to the Hand, what was read off them is held, and none owes an answer; and what is asked of their links is so.
  pub record Starts {H : Type 0} (sound : Type 0) (given : L → Type 0) (tokens : Tokens H E S C)
      (conns : List (Option (Conn L))) : Type 0 where
    pub tokens_good : AreGoodWhile seen service sound tokens
    pub conns_given : Every (IsGiven given) conns
    pub conns_spoken : sound → Every (HasSpokenIf put_gives take_gives seen service (shown_hand tokens.hand)) conns
    pub conns_read : sound → Every (IsReadIf put_gives take_gives) conns
    pub conns_owe : sound → Every (OwesIf put_gives take_gives 0) conns

  -- and how it ends: what is left of its connections has spoken so, what was read off those that are left is held, and they
  -- owe no answer
  pub record Ends {H : Type 0} (sound : Type 0) (given : L → Type 0) (tokens : Tokens H E S C) (ended : List (Ended L))
      : Type 0 where
    pub ended_given : Every (λ e. IsGiven given (or_was e.conn e.was.value)) ended
    pub ended_spoken : sound → Every (λ e. HasSpokenIf put_gives take_gives seen service (shown_hand tokens.hand) (or_was e.conn e.was.value)) ended
    pub ended_read : sound → Every (λ e. IsReadIf put_gives take_gives e.conn) ended
    pub ended_owe : sound → Every (λ e. OwesIf put_gives take_gives 0 e.conn) ended
