use Rattle.sqlite_value.specs.Order.{column}
use Rattle.keep_sqlite.proofs.OrdersRead.{head_told}
use Rattle.keep_sqlite.proofs.order_reads.with_head.Goals as goal

pub returns-in-Some : goal.returns-in-Some
returns-in-Some c =
    let head = c.args.head.now in
    head_told (column head 0) (column head 1) (column head 2) (column head 3) _ _ _ _ _ _ _ c.args.stocks.items _
    c.in-Some.order c.in_ok-account.ensures.ok.1 c.in_ok-amount.ensures.ok.1 c.in_ok-status.ensures.ok.1
    c.in_ok-phase.ensures.ok.1 c.as_str.ensures.value c.as_str-2.ensures.value c.as_str-3.ensures.value c.in-Some.is
    c.in_ok-order.ensures
