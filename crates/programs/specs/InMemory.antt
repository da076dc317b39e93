-- Runs over tables in memory.
use Rattle.std.specs.Prelude.{◌≡◌, List, Option}
use Rattle.trade.specs.Accounts.{AccountState}
use Rattle.trade.specs.Orders.{OrderState}
use Rattle.trade.specs.Stocks.{StockState}
use Rattle.trade.specs.declared.commands.AccountCommand.{AccountCommand}
use Rattle.trade.specs.declared.commands.OrderCommand.{OrderCommand}
use Rattle.trade.specs.declared.commands.StockCommand.{StockCommand}
use Rattle.purchasing.specs.declared.orders.Orders.{Orders}
use Rattle.warehouse.specs.declared.stocks.Stocks.{Stocks}
use Rattle.billing.specs.declared.accounts.Accounts.{Accounts}
use Rattle.keep_plain.specs.Memory.{tables_of}
use Rattle.keep_plain.specs.declared.plain.PlainKeep.{PlainKeep}
use Rattle.schedule_text.specs.declared.event.Event.{Event}
use Rattle.schedule_text.specs.declared.outcome.Outcome.{Outcome}
use Rattle.laws_stores.specs.Sight.{AllTables, all_empty}
use Rattle.schedule_runner.specs.Sight.{sight}
use Rattle.schedule_runner.specs.Told.{AllTold}
use Rattle.schedule_runner.specs.declared.world.World.{World}
use Rattle.schedule_io.specs.InMemory.{plain}
use Rattle.programs.specs.Runs.{IsGoodStart, IsGoodEnd}

-- three services, each over tables in memory
abbrev pub PlainWorld : Type 0
PlainWorld = World (PlainKeep Orders (Option OrderState) OrderCommand) (PlainKeep Stocks StockState StockCommand)
    (PlainKeep Accounts AccountState AccountCommand)

-- the tables of all three
abbrev pub plain_tables : PlainWorld → AllTables
plain_tables world = record {
  purchasing = tables_of world.purchasing.endpoint.keep;
  warehouse = tables_of world.warehouse.endpoint.keep;
  billing = tables_of world.billing.endpoint.keep;
}

-- a run that began with empty tables, which are a good start, and has a good end, behind which the commands that stand
-- in the journals are those that the outcomes tell
pub record EndsWellInMemory (events : List Event) (outcomes : List Outcome) (first last : PlainWorld) : Type 0 where
  pub empty : plain_tables first ≡ all_empty
  pub start : IsGoodStart (sight plain plain plain first)
  pub end : IsGoodEnd plain plain plain events outcomes first last
  pub told : ∥ AllTold events outcomes all_empty (plain_tables last) ∥₁
