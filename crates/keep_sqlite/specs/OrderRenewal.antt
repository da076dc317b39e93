-- The orders of version 1, as an answer shows them and as they are put into the rows of today.
use Rattle.std.specs.Prelude.{◌≡◌, List, Option, Some, string_bytes}
use Rattle.std.specs.List.{AllZip}
use Rattle.sqlite.specs.declared.types.Value.TheVariants.{Text}
use Rattle.sqlite_value.specs.Order.{Row, column}
use Rattle.base.specs.Entity.{order_of}
use Rattle.keep.specs.declared.change.Change.{Change}
use Rattle.keep.specs.declared.change.Change.TheVariants.{State}
use Rattle.trade.specs.Orders.{OrderState}
use Rattle.trade.specs.declared.commands.OrderCommand.{OrderCommand}
use Rattle.keep_sqlite.specs.FirstVersion.{first_order_told}
use Rattle.keep_sqlite.specs.declared.order_renewal.KeyedOrder.{KeyedOrder}

-- a row of an answer tells this order: its key stands first, and behind it what version 1 kept of an order
pub record TellsOrder (r : Row) (o : KeyedOrder) : Type 0 where
  pub key : column r 0 ≡ Text (string_bytes o.key)
  pub order : first_order_told (column r 1) (column r 2) (column r 3) (column r 4) (column r 5) (column r 6) (column r 7)
      ≡ Some o.order

-- the rows tell these orders, in order
abbrev pub AreTold : List Row → List KeyedOrder → Type 0
AreTold = AllZip TellsOrder

-- the change that puts an order
abbrev pub order_change : KeyedOrder → Change (Option OrderState) OrderCommand
order_change o = State (order_of (string_bytes o.key)) (Some (Some o.order))
