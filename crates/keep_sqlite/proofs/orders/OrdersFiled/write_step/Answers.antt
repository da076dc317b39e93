use Rattle.std.proofs.Common.{Some}
use Rattle.sqlite.specs.Held.{state}
use Rattle.keep_sqlite.proofs.OrdersWritten.{as_given}
use Rattle.keep_sqlite.proofs.orders.OrdersFiled.write_step.Goals as goal

pub returns-in-Order-clause-ok : goal.returns-in-Order-clause-ok
returns-in-Order-clause-ok g c clean =
    as_given c.set_order.result (state g.S.Store c.args.tx.now.conn.now) (state g.S.Store c.set_order.new.tx.conn.now)
    c.kind.result c.key.result.now c.args.entity.now (Some c.args.row.now) c.kind.ensures.kind c.in-Order.is
    c.key.ensures.key (c.set_order.ensures.ok clean)
