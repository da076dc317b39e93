-- Three services, as their stores show them.
use Rattle.std.specs.Prelude.{◌≡◌, Option, is_none, false}
use Rattle.base.specs.declared.entity.Kind.TheVariants.{Order, Stock, Account}
use Rattle.trade.specs.declared.commands.OrderCommand.{OrderCommand}
use Rattle.trade.specs.declared.commands.StockCommand.{StockCommand}
use Rattle.trade.specs.declared.commands.AccountCommand.{AccountCommand}
use Rattle.trade.specs.Orders.{OrderState, order_reactions}
use Rattle.trade.specs.Stocks.{StockState, stock_reactions}
use Rattle.trade.specs.Accounts.{AccountState, account_reactions}
use Rattle.activities.specs.Service.{Service}
use Rattle.keep.specs.Seen.{Seen}
use Rattle.keep.specs.Tables.{Tables, empty}
use Rattle.endpoint.specs.Matches.{AllMatch}

-- purchasing, warehouse and billing: the kind of their entities, what these do, and which states are none
abbrev pub orders_service : Service (Option OrderState) OrderCommand
orders_service = record { kind = Order; reactions = order_reactions; is_none = is_none }

abbrev pub stocks_service : Service StockState StockCommand
stocks_service = record { kind = Stock; reactions = stock_reactions; is_none = λ _. false }

abbrev pub accounts_service : Service AccountState AccountCommand
accounts_service = record { kind = Account; reactions = account_reactions; is_none = λ _. false }

abbrev pub OrderTables : Type 0
OrderTables = Tables (Option OrderState) OrderCommand

abbrev pub StockTables : Type 0
StockTables = Tables StockState StockCommand

abbrev pub AccountTables : Type 0
AccountTables = Tables AccountState AccountCommand

-- the tables of all three
pub record AllTables : Type 0 where
  pub purchasing : OrderTables
  pub warehouse : StockTables
  pub billing : AccountTables

-- those of services that did nothing yet
abbrev pub all_empty : AllTables
all_empty = record { purchasing = empty; warehouse = empty; billing = empty }

-- what is seen of all three stores
pub record Sight : Type 1 where
  pub purchasing : Seen OrderTables
  pub warehouse : Seen StockTables
  pub billing : Seen AccountTables

-- no file of theirs is in doubt
abbrev pub AreClean : Sight → Type 0
AreClean s = (s.purchasing.doubt ≡ 0) × (s.warehouse.doubt ≡ 0) × (s.billing.doubt ≡ 0)

-- the tables of each match its journal, whatever a stop leaves
abbrev pub AreMatching : Sight → Type 0
AreMatching s = AllMatch orders_service s.purchasing.may_leave × AllMatch stocks_service s.warehouse.may_leave
    × AllMatch accounts_service s.billing.may_leave

-- a stop may leave these tables, of each service one content of its own
pub record MayLeave (s : Sight) (t : AllTables) : Type 0 where
  pub purchasing : s.purchasing.may_leave t.purchasing
  pub warehouse : s.warehouse.may_leave t.warehouse
  pub billing : s.billing.may_leave t.billing
