use Rattle.std.proofs.Common.{◌∙◌}
use Rattle.sqlite.specs.Held.{state}
use Rattle.sqlite.specs.State.{HasCleanDisk}
use Rattle.sqlite_rules.proofs.ListLemmas.{all_more}
use Rattle.trade.specs.Words.{stock_line_word}
use Rattle.sql_bodies.specs.LineRows.{IsRow}
use Rattle.keep_sqlite.specs.Holders.{line_cells}
use Rattle.keep_sqlite.proofs.Clean.{clean_before}
use Rattle.keep_sqlite.proofs.AddedRows.{one_more_added}
use Rattle.keep_sqlite.proofs.Changes.{survives_quietly}
use Rattle.keep_sqlite.proofs.stocks.add_lines.Goals as goal

pub loop-line-preserved : goal.loop-line-preserved
loop-line-preserved g c =
    let old = state g.S.Store c.args.tx.now.conn.now in
    let mid = state g.S.Store c.loop-line.tx.conn.now in
    let new = state g.S.Store c.add_line.new.tx.conn.now in
    let all = c.args.lines.now in
    let at = c.loop-line.line-index in
    let line = c.line-item.result in (
      c.add_line.ensures.same_reference ∙ c.loop-line.invariant.0,
      survives_quietly old mid new c.loop-line.invariant.1 c.add_line.ensures.survives,
      all_more IsRow all at line c.loop-line-test.true c.line-item.is c.loop-line.invariant.2 c.add_line.ensures.row,
      λ clean.
          let early : HasCleanDisk mid = clean_before _ _ c.add_line.ensures.survives.clean clean in
          one_more_added (line_cells stock_line_word c.args.key.now) all at line c.loop-line-test.true
          c.line-item.is 11 old mid new (c.loop-line.invariant.3 early) (c.in_ok-add_line.ensures.ok clean),
    )
