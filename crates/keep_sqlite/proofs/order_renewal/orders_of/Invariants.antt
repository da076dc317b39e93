use Rattle.std.proofs.Common.{take}
use Rattle.keep_sqlite.specs.OrderRenewal.{AreTold}
use Rattle.keep_sqlite.proofs.order_renewal.orders_of.Given as goal

abbrev pub invariant-loop-row : goal.invariant-loop-row
invariant-loop-row l = AreTold (take l.row-index l.rows) l.orders.items
