use Rattle.std.proofs.Common.{◌≡◌, take, Some}
use Rattle.keep_sqlite.specs.Orders.{shown_stocks}
use Rattle.keep_sqlite.proofs.order_reads.stocks_of.Given as goal

abbrev pub invariant-loop-line : goal.invariant-loop-line
invariant-loop-line l = shown_stocks (take l.line-index l.lines) ≡ Some l.stocks.items
