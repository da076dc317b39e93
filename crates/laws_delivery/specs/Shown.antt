-- What the tables of a service show of each pair, as sender and as receiver, and when letters are delivered.
use Rattle.std.specs.Prelude.{◌≡◌, ℕ, suc, ◌≤◌, ◌<◌, Bool, true, List, length, Some, None, IsSome}
use Rattle.base.specs.declared.entity.Kind.{Kind}
use Rattle.base.specs.declared.pair.Pair.{Pair}
use Rattle.envelope.specs.declared.message.Message.{Message}
use Rattle.envelope.specs.declared.message.Envelope.{Envelope}
use Rattle.envelope.specs.declared.message.Envelope.TheVariants as envelope
use Rattle.envelope.specs.declared.message.Letter.{Letter}
use Rattle.activities.specs.Journal.{sent_of, letters_of}
use Rattle.activities.specs.Numbered.{numbered, nth, IsPrefixOf}
use Rattle.activities.specs.Service.{Service}
use Rattle.keep.specs.Tables.{Tables, Messages}

-- of each pair: what a service sent on it and marks as settled, the letters that it handled, and those that it holds
pub record Shown : Type 0 where
  pub sent : Pair → List Message
  pub settled : Pair → ℕ
  pub letters : Pair → List (ℕ × Message)
  pub held : Messages

-- what a service's tables show
abbrev pub shown : {S C : Type 0} → Service S C → Tables S C → Shown
shown service t = record {
  sent = sent_of service.reactions t.journal;
  settled = t.settled;
  letters = letters_of t.journal;
  held = t.held;
}

-- the pair an envelope is of
abbrev pub pair_of : Envelope → Pair
pair_of (envelope.Letter l) = l.pair
pair_of (envelope.Settle pair count) = pair

-- a settle up to 0 says nothing
abbrev pub SaysNothing : Envelope → Type 0
SaysNothing (envelope.Letter l) = ⊥
SaysNothing (envelope.Settle pair count) = count ≡ 0

-- the pair is asked about, and is from an entity of the first kind to one of the second
abbrev pub IsFromTo : (Pair → Bool) → Kind → Kind → Pair → Type 0
IsFromTo pairs from to p = (p.from.kind ≡ from) × (p.to.kind ≡ to) × (pairs p ≡ true)

-- Of each of these pairs: the letters that the receiver handled are a prefix of what the sender sent, each once and in
-- order; what the receiver holds, the sender sent under that number; what the sender marks as settled was handled.
pub record Delivers (pairs : Pair → Bool) (from to : Kind) (sender receiver : Shown) : Type 0 where
  pub handled : (p : Pair) → IsFromTo pairs from to p → IsPrefixOf (receiver.letters p) (numbered 0 (sender.sent p))
  pub held : (p : Pair) → IsFromTo pairs from to p → (n : ℕ) (m : Message) → receiver.held p n ≡ Some m
      → nth (sender.sent p) n ≡ Some m
  pub settled : (p : Pair) → IsFromTo pairs from to p → sender.settled p ≤ length (receiver.letters p)

-- a letter is what the sender sent under that number, and a settle isn't ahead of what the receiver handled
abbrev pub IsTrueOf : (sender receiver : Shown) → Envelope → Type 0
IsTrueOf sender receiver (envelope.Letter l) = nth (sender.sent l.pair) l.number ≡ Some l.message
IsTrueOf sender receiver (envelope.Settle pair count) = count ≤ length (receiver.letters pair)

-- the letter of this pair and number was handled, or is held
abbrev pub IsThere : (receiver : Shown) → Pair → ℕ → Type 0
IsThere receiver p n = length (receiver.letters p) < n → IsSome (receiver.held p n)

-- each letter of the pair that the sender sent, and doesn't mark as settled, was taken
abbrev pub AllTaken : (Letter → Type 0) → (sender : Shown) → Pair → Type 0
AllTaken taken sender p = (n : ℕ) (m : Message) → nth (sender.sent p) n ≡ Some m → sender.settled p < n
    → taken (record { pair = p; number = n; message = m })

-- the next letter of the pair isn't held
abbrev pub HoldsNoNext : (receiver : Shown) → Pair → Type 0
HoldsNoNext receiver p = receiver.held p (suc (length (receiver.letters p))) ≡ None

-- all that was sent on the pair was handled, each once and in order
abbrev pub AllHandled : (sender receiver : Shown) → Pair → Type 0
AllHandled sender receiver p = receiver.letters p ≡ numbered 0 (sender.sent p)
