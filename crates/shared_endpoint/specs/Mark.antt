-- The mark of the journal's length: what calls raise it to.
use Rattle.std.specs.Prelude.{◌≡◌, ℕ, List, [], ◌∷◌, ◌++◌, length, Option, Some, None, Result, Ok, Err}
use Rattle.keep.specs.Seen.{Seen}
use Rattle.keep.specs.Tables.{Tables}
use Rattle.marks.specs.declared.rule.Entry.{Entry}
use Rattle.marks.specs.Entries.{entry}
use Rattle.std.specs.Global.{Vec}
use Rattle.endpoint.specs.declared.answer.Committed.{Committed}
use Rattle.endpoint.specs.declared.answer.Ingested.{Ingested}
use Rattle.endpoint.specs.declared.answer.Ingested.TheVariants.{Handled, Repeated, Held}
use Rattle.endpoint.specs.declared.fault.EndFault.{EndFault}
use Rattle.endpoint.specs.Calls.{Counts}
use Rattle.group_commit.specs.declared.grouped.Grouped.{Grouped}
use Rattle.group_commit.specs.declared.grouped.Grouped.TheVariants as grouped

-- the numbers that were raised before, and this one, if any, at the one place that the marks have
abbrev pub raised_after : List Entry → Option ℕ → List Entry
raised_after raised None = raised
raised_after raised (Some rows) = raised ++ entry 0 rows ∷ []

-- the position of the row that a commit added, if any
abbrev pub row_committed : Result Committed EndFault → Option ℕ
row_committed (Ok c) = Some c.pos
row_committed (Err fault) = None

-- the position of the row that taking in a letter added, if any
abbrev pub row_handled : Result Ingested EndFault → Option ℕ
row_handled (Ok (Handled pos)) = Some pos
row_handled (Ok (Repeated handled)) = None
row_handled (Ok Held) = None
row_handled (Err fault) = None

-- the last of the positions that are told, or where there is none, this
abbrev pub last_handled : Option ℕ → List Grouped → Option ℕ
last_handled before [] = before
last_handled before (grouped.Handled position ∷ told) = last_handled (Some position) told
last_handled before (grouped.Settled mark ∷ told) = last_handled before told

-- the position of the last row that taking in a group added, if any
abbrev pub rows_grouped : Result (Vec Grouped) EndFault → Option ℕ
rows_grouped (Ok told) = last_handled None told.items
rows_grouped (Err fault) = None

-- how many rows the journal has behind the taking in of a held letter, where one was taken in
abbrev pub AreRowsDrained : {E S C : Type 0} → (E → Seen (Tables S C)) → E → Result (Option ℕ) EndFault → Option ℕ
    → Type 0
AreRowsDrained seen e (Ok (Some number)) (Some rows) = Counts seen e (λ t. length t.journal) (Ok rows)
AreRowsDrained seen e (Ok (Some number)) None = ⊥
AreRowsDrained seen e (Ok None) rows = rows ≡ None
AreRowsDrained seen e (Err fault) rows = rows ≡ None
