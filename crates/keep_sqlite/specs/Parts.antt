-- The changes of tables, write by write.
use Rattle.std.specs.Prelude.{ℕ, [], ◌∷◌, ◌++◌, Some}
use Rattle.base.specs.declared.pair.Pair.{Pair}
use Rattle.envelope.specs.declared.message.Letter.{Letter}
use Rattle.activities.specs.declared.input.JournalRow.{JournalRow}
use Rattle.keep.specs.Tables.{Tables, set_mark, set_message, without_upto}

module _ {S C : Type 0} where
  abbrev pub with_sent : Pair → ℕ → Tables S C → Tables S C
  with_sent p n t = record t { sent = set_mark p n t.sent }

  abbrev pub with_settled : Pair → ℕ → Tables S C → Tables S C
  with_settled p n t = record t { settled = set_mark p n t.settled }

  abbrev pub with_letter : Letter → Tables S C → Tables S C
  with_letter l t = record t { unsettled = set_message l.pair l.number (Some l.message) t.unsettled }

  abbrev pub without_letters : Pair → ℕ → Tables S C → Tables S C
  without_letters p n t = record t { unsettled = without_upto p n t.unsettled }

  abbrev pub with_row : JournalRow C → Tables S C → Tables S C
  with_row row t = record t { journal = t.journal ++ row ∷ [] }
