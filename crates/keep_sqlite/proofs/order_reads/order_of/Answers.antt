use Rattle.std.proofs.Common.{sym}
use Rattle.keep_sqlite.proofs.OrdersRead.{first_told}
use Rattle.keep_sqlite.proofs.order_reads.order_of.Goals as goal

pub returns : goal.returns
returns c = first_told c.args.heads.now c.args.lines.now c.in-Some.head.now c.in_ok-stocks.stocks.items
    c.in_ok-order.order (sym c.in-Some.ensures.value) c.in_ok-stocks.ensures c.in_ok-order.ensures
