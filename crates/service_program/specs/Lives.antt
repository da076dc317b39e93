-- What is so of an endpoint where a service's life begins, and of what its threads are given.
use Rattle.std.specs.Prelude.{◌≡◌, ℕ, true, List, Result}
use Rattle.stomp_wire.specs.declared.fault.LinkFault.{LinkFault}
use Rattle.activities.specs.Service.{Service}
use Rattle.keep.specs.Seen.{Seen}
use Rattle.keep.specs.Tables.{Tables}
use Rattle.endpoint.specs.Matches.{AllMatch}
use Rattle.told_lock.specs.Keys.{LockName}
use Rattle.shared_endpoint.specs.Keys.{name_of}
use Rattle.shared_endpoint.specs.declared.shared.Shared.{Shared}
use Rattle.service_workers.specs.Handed.{AreTokensOf, AreGoodWhile}
use Rattle.service_workers.specs.Lives.{HandTakes}
use Rattle.service_workers.specs.declared.handed.Tokens.{Tokens}

-- it is usable, and its tables match their journal, whatever a crash leaves of them
pub record IsWhole {E S C : Type 0} (seen : E → Seen (Tables S C)) (service : Service S C) (e : E) : Type 0 where
  pub usable : (seen e).usable ≡ true
  pub matches : AllMatch service (seen e).may_leave

module _ {H E S C L : Type 0} where
  -- the service has this name, and its connections may begin with any link that is reached
  abbrev pub IsNamed : LockName E → (reached given : L → Type 0) → Shared H E S C → Type 0
  IsNamed lock reached given shared = (name_of shared ≡ lock) × ((link : L) → reached link → given link)

module _ {H E S C : Type 0} (seen : E → Seen (Tables S C)) (service : Service S C) where
  -- tokens of this service, which are good while it's sound
  abbrev pub AreItsTokens : (sound : Type 0) → Shared H E S C → Tokens H E S C → Type 0
  AreItsTokens sound shared tokens = AreTokensOf shared tokens × AreGoodWhile seen service sound tokens

module _ {L : Type 0} (put_gives : L → List ℕ → Result ℕ LinkFault → L → Type 0)
    (take_gives : L → ℕ → Result (List ℕ) LinkFault → L → Type 0) {H E S C : Type 0} (seen : E → Seen (Tables S C))
    (service : Service S C) where
  -- The service was served with these tokens: they are its tokens still, and all that they have processed since came.
  abbrev pub HaveServed : (sound : Type 0) → (given : L → Type 0) → Shared H E S C → (before after : Tokens H E S C) → Type 0
  HaveServed sound given shared before after = AreItsTokens seen service sound shared after
      × HandTakes put_gives take_gives seen service sound given before after
