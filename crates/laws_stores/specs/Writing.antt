-- When what a service writes is true.
use Rattle.std.specs.Prelude.{◌≡◌, ◌≤◌, List, Some}
use Rattle.envelope.specs.declared.message.Envelope.{Envelope}
use Rattle.envelope.specs.declared.message.Envelope.TheVariants.{Letter, Settle}
use Rattle.activities.specs.declared.input.JournalRow.{JournalRow}
use Rattle.activities.specs.Journal.{sent_of, handled_of}
use Rattle.activities.specs.Numbered.{nth}
use Rattle.activities.specs.Reaction.{Reactions}

-- by its own journal: a letter is what that sends under this number, and a settle isn't ahead of what was handled there
abbrev pub IsTrueIn : {S C : Type 0} → Reactions S C → List (JournalRow C) → Envelope → Type 0
IsTrueIn reactions journal (Letter l) = nth (sent_of reactions journal l.pair) l.number ≡ Some l.message
IsTrueIn reactions journal (Settle pair count) = count ≤ handled_of journal pair
