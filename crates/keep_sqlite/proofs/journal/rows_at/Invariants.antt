use Rattle.std.proofs.Common.{◌≡◌, map, take}
use Rattle.keep_sqlite.specs.Tables.{shown_row}
use Rattle.keep_sqlite.proofs.journal.rows_at.Given as goal

abbrev pub invariant-loop-row : goal.invariant-loop-row
invariant-loop-row g l = l.entries.items ≡ map (shown_row g.H.Filed.filing) (take l.row-index l.rows)
