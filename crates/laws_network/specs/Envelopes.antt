-- When what a side sends is true.
use Rattle.std.specs.Prelude.{◌≡◌, ℕ, List, Some, slice_get}
use Rattle.envelope.specs.declared.message.Envelope.{Envelope}
use Rattle.activities.specs.declared.input.JournalRow.{JournalRow}
use Rattle.activities.specs.Reaction.{Reactions}
use Rattle.laws_stores.specs.Writing.{IsTrueIn}

-- all that a side ever sent is authentic: true by its own journal
abbrev pub AreAuthentic : {S C : Type 0} → Reactions S C → List (JournalRow C) → List Envelope → Type 0
AreAuthentic reactions journal sent = (i : ℕ) (e : Envelope) → slice_get sent i ≡ Some e → IsTrueIn reactions journal e
