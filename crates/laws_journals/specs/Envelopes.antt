-- When what is said of a journal is true: envelopes, and marks of what is settled.
use Rattle.std.specs.Prelude.{◌≡◌, ◌≢◌, ℕ, ◌≤◌, max, Some}
use Rattle.base.specs.declared.pair.Pair.{Pair}
use Rattle.envelope.specs.declared.message.Envelope.{Envelope}
use Rattle.envelope.specs.declared.message.Envelope.TheVariants.{Letter, Settle}
use Rattle.activities.specs.Numbered.{nth}
use Rattle.laws_journals.specs.Journals.{Journals, sent_in, handled_in}

-- a letter is what its sender's journal sends under that number; a settle isn't ahead of what was handled
abbrev pub IsAuthentic : Journals → Envelope → Type 0
IsAuthentic js (Letter letter) = nth (sent_in js letter.pair) letter.number ≡ Some letter.message
IsAuthentic js (Settle pair count) = count ≤ handled_in js pair

-- what a sender marks settled, its receiver has handled
abbrev pub SettledAreHandled : Journals → (Pair → ℕ) → Type 0
SettledAreHandled js settled = (pair : Pair) → settled pair ≤ handled_in js pair

-- marks after a settle of this pair: its own is the greater of what it was and that number, the others are as before
pub record Raises (pair : Pair) (count : ℕ) (settled later : Pair → ℕ) : Type 0 where
  pub own : later pair ≡ max (settled pair) count
  pub others : (other : Pair) → other ≢ pair → later other ≡ settled other
