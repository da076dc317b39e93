use Rattle.keep_sqlite.proofs.OrderRenewal.{one_more_told}
use Rattle.keep_sqlite.proofs.order_renewal.orders_of.Goals as goal

pub loop-row-preserved : goal.loop-row-preserved
loop-row-preserved c =
    one_more_told c.args.rows.now c.loop-row.row-index c.row-item.result c.loop-row.orders.items c.in_ok-order.order
    c.push.new.self.items c.loop-row-test.true c.row-item.is c.loop-row.invariant c.in_ok-order.ensures
    c.in_ok-push.ensures.items
