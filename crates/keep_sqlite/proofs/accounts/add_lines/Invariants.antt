use Rattle.std.proofs.Common.{◌≡◌, take, map}
use Rattle.std.specs.List.{AllByRecursion}
use Rattle.sqlite.specs.Held.{state}
use Rattle.sqlite.specs.State.{HasCleanDisk, Survives}
use Rattle.trade.specs.Words.{account_line_word}
use Rattle.sql_bodies.specs.LineRows.{IsRow}
use Rattle.sql_rows.specs.Tables.{Edits}
use Rattle.keep_sqlite.specs.AddedRows.{AreAdded}
use Rattle.keep_sqlite.specs.Holders.{line_cells}
use Rattle.keep_sqlite.proofs.accounts.add_lines.Given as goal

abbrev pub invariant-loop-line : goal.invariant-loop-line
invariant-loop-line g l =
    let old = state g.S.Store l.fn.tx.conn.now in
    let now = state g.S.Store l.tx.conn.now in
    let done = take l.line-index l.lines in
    (l.tx.conn.ghost_name ≡ l.fn.tx.conn.ghost_name)
    × Survives old now (λ _. ⊥)
    × AllByRecursion IsRow done
    × (HasCleanDisk now → Edits 11 (AreAdded (map (line_cells account_line_word l.key) done)) old now)
