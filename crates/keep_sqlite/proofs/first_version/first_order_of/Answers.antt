use Rattle.std.proofs.Common.{ap, ◌∙◌}
use Rattle.sqlite_value.specs.Order.{column}
use Rattle.keep_sqlite.specs.Orders.{order_told}
use Rattle.keep_sqlite.proofs.OrdersRead.{head_told}
use Rattle.keep_sqlite.proofs.first_version.first_order_of.Goals as goal

pub returns-in-Some : goal.returns-in-Some
returns-in-Some c =
    let row = c.args.row.now in
    ap (order_told (column row 3) (column row 4) (column row 5) (column row 7)) c.in_ok-stocks.ensures
    ∙ head_told (column row 3) (column row 4) (column row 5) (column row 7) _ _ _ _ _ _ _ c.in_ok-stocks.stocks.items _
    c.in-Some.order c.in_ok-account.ensures.ok.1 c.in_ok-amount.ensures.ok.1 c.in_ok-status.ensures.ok.1
    c.in_ok-phase.ensures.ok.1 c.as_str.ensures.value c.as_str-2.ensures.value c.as_str-3.ensures.value c.in-Some.is
    c.in_ok-order.ensures
