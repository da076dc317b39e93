-- Which letters are due on a connection, and what sending them does.
use Rattle.std.specs.Prelude.{◌≡◌, ℕ, zero, suc, ◌+◌, ◌-◌, ◌<◌, ◌^◌, if◌then◌else◌, nat_lt, List, [], ◌∷◌, None}
use Rattle.std.specs.List.{AllByRecursion}
use Rattle.base.specs.declared.pair.Pair.{Pair}
use Rattle.stomp_frame.specs.Frames.{Content}
use Rattle.stomp_client.specs.Clients.{Client, ClientWithRoom, receipted}
use Rattle.stomp_client.specs.Frames.{with_receipt}
use Rattle.stomp_client.specs.Written.{Adds}
use Rattle.stomp_client.specs.declared.fault.ClientFault.TheVariants as client
use Rattle.envelope.specs.Written.{IsEnvelope, send_of}
use Rattle.envelope.specs.declared.message.Letter.{Letter}
use Rattle.envelope.specs.declared.message.Envelope.TheVariants as envelope
use Rattle.envelope.specs.declared.fault.EnvelopeFault.TheVariants as envelope_fault
use Rattle.keep.specs.Tables.{Messages, set_mark}
use Rattle.relay.specs.Marks.{mark_in}
use Rattle.relay.specs.declared.relay.Relay.{Relay}
use Rattle.relay.specs.declared.fault.RelayFault.{RelayFault}
use Rattle.relay.specs.declared.fault.RelayFault.TheVariants as fault

-- what a connection has for sending: the last number that was sent on it of each pair, and its client
pub record SendState : Type 0 where
  pub marks : Pair → ℕ
  pub client : Client ℕ

-- the last number sent of a pair
abbrev pub marks_of : Relay → Pair → ℕ
marks_of r p = mark_in r.marks p

-- what a relay and a client make
abbrev pub send_state : Relay → ClientWithRoom ℕ → SendState
send_state r c = record { marks = marks_of r; client = c.client }

-- ---- what is due

-- of these messages those above what was sent of their pairs
abbrev pub unsent : (Pair → ℕ) → Messages → Messages
unsent marks messages p n = if nat_lt (marks p) n then messages p n else None

-- of these letters the first ones, up to so many, that are above what was sent of their pairs
abbrev pub due : (limit : ℕ) → (Pair → ℕ) → List Letter → List Letter
due zero marks letters = []
due (suc limit) marks [] = []
due (suc limit) marks (l ∷ ls) = if nat_lt (marks l.pair) l.number
    then l ∷ due limit (set_mark l.pair l.number marks) ls
    else due (suc limit) marks ls

-- ---- what sending does

-- a letter was sent, with the next receipt number; its number is the receipt's tag, and the last that was sent of its
-- pair
abbrev pub with_sent : SendState → Letter → SendState
with_sent c l = record {
  marks = set_mark l.pair l.number c.marks;
  client = receipted (send_of (envelope.Letter l)) l.number c.client;
}

-- these letters were sent, the first of them first
abbrev pub with_all_sent : SendState → List Letter → SendState
with_all_sent c [] = c
with_all_sent c (l ∷ ls) = with_all_sent (with_sent c l) ls

-- the frames that are written then
abbrev pub sends_of : SendState → List Letter → List Content
sends_of c [] = []
sends_of c (l ∷ ls) =
    with_receipt (c.client.receipts.last + 1) (send_of (envelope.Letter l)) ∷ sends_of (with_sent c l) ls

-- exactly these letters were sent, each of which can be written, and so these frames were written
pub record SendsLetters (letters : List Letter) (old new : SendState) : Type 0 where
  pub each : AllByRecursion (λ l. IsEnvelope (envelope.Letter l)) letters
  pub all : new ≡ with_all_sent old letters
  pub wrote : Adds (sends_of old letters) old.client.out new.client.out

-- what stops a relay at a letter that is due: no receipt number is left behind the last, or else memory was refused
abbrev pub StopsSending : (last : ℕ) → RelayFault → Type 0
StopsSending last (fault.Client client.NumbersUsed) = last ≡ 2 ^ 64 - 1
StopsSending last (fault.Client client.Memory) = last < 2 ^ 64 - 1
StopsSending last (fault.Envelope envelope_fault.Memory) = last < 2 ^ 64 - 1
StopsSending last _ = ⊥
