-- The rows of the outbox: what was sent and isn't settled.
use Rattle.std.specs.Prelude.{ℕ, nat_lt, List, Option, None, if◌then◌else◌}
use Rattle.base.specs.declared.pair.Pair.{Pair}
use Rattle.envelope.specs.declared.message.Message.{Message}
use Rattle.activities.specs.Numbered.{nth}
use Rattle.activities.specs.declared.input.JournalRow.{JournalRow}
use Rattle.activities.specs.Reaction.{Reactions}
use Rattle.activities.specs.Journal.{sent_of}
use Rattle.keep.specs.Tables.{Messages}

-- the messages by number, without those up to a mark
abbrev pub above : ℕ → List Message → ℕ → Option Message
above mark messages n = if nat_lt mark n then nth messages n else None

-- what a journal sends and isn't settled by these marks, by pair and number
abbrev pub unsettled_of : {S C : Type 0} → Reactions S C → List (JournalRow C) → (Pair → ℕ) → Messages
unsettled_of reactions journal settled pair n = above (settled pair) (sent_of reactions journal pair) n
