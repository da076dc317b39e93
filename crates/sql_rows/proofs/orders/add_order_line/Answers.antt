use Rattle.std.proofs.Common.{arith, w64}
use Rattle.std.proofs.lemmas.Int.{to_z-of_z}
use Rattle.sqlite.specs.Held.{state}
use Rattle.sqlite.specs.State.{HasCleanDisk}
use Rattle.sql_rows.proofs.OrderRows.{adds_line}
use Rattle.sql_rows.proofs.orders.add_order_line.Goals as goal

pub returns-clause-ok : goal.returns-clause-ok
returns-clause-ok g c clean =
    let old = state g.S.Store c.args.tx.now.conn.now in
    let early : HasCleanDisk old = omega (arith, c.write.ensures.survives.clean) in
    adds_line c.args.order.now c.args.line c.args.stock.now c.args.n c.args.phase.now old
    (state g.S.Store c.write.new.tx.conn.now) c.write.result (c.requires.schema early) (c.requires.rising early)
    (rw (
      c.text.ensures,
      c.int.ensures,
      c.text-2.ensures,
      c.int-2.ensures,
      c.text-3.ensures,
      to_z-of_z w64 c.args.line
          c.ranges.line,
      to_z-of_z w64 c.args.n c.ranges.n,
    ) at (c.write.ensures.runs clean))
