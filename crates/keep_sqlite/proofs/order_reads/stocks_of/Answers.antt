use Rattle.keep_sqlite.proofs.OrdersRead.{one_more_line}
use Rattle.keep_sqlite.proofs.order_reads.stocks_of.Goals as goal

pub loop-line-preserved : goal.loop-line-preserved
loop-line-preserved c = one_more_line c.args.lines.now c.loop-line.line-index c.line-item.result
    c.loop-line.stocks.items c.push_line.new.stocks.items c.loop-line-test.true c.line-item.is c.loop-line.invariant
    c.in_ok-push_line.ensures
