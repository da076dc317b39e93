use Rattle.std.proofs.Common.{arith, w64}
use Rattle.std.proofs.lemmas.Int.{to_z-of_z}
use Rattle.sqlite.specs.Held.{state}
use Rattle.sqlite.specs.State.{HasCleanDisk}
use Rattle.sql_rows.proofs.StockRows.{puts_head}
use Rattle.sql_rows.proofs.stocks.put_stock.Goals as goal

pub returns-clause-ok : goal.returns-clause-ok
returns-clause-ok g c clean =
    let old = state g.S.Store c.args.tx.now.conn.now in
    let early : HasCleanDisk old = omega (arith, c.write.ensures.survives.clean) in
    puts_head c.args.key.now c.args.on_hand c.args.held c.args.shipped c.args.received old
    (state g.S.Store c.write.new.tx.conn.now) c.write.result (c.requires.schema early) (c.requires.rising early)
    (rw (
      c.text.ensures,
      c.int.ensures,
      c.int-2.ensures,
      c.int-3.ensures,
      c.int-4.ensures,
      to_z-of_z w64 c.args.on_hand
          c.ranges.on_hand,
      to_z-of_z w64 c.args.held c.ranges.held,
      to_z-of_z w64 c.args.shipped c.ranges.shipped,
      to_z-of_z w64 c.args.received c.ranges.received,
    ) at (c.write.ensures.runs clean))
