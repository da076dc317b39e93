-- Stores in memory begin with nothing, and nothing of them is in doubt.
use Rattle.std.proofs.Common.{◌≡◌, Option, refl, ap, ◌∙◌}
use Rattle.trade.specs.Accounts.{AccountState}
use Rattle.trade.specs.Orders.{OrderState}
use Rattle.trade.specs.Stocks.{StockState}
use Rattle.trade.specs.declared.commands.AccountCommand.{AccountCommand}
use Rattle.trade.specs.declared.commands.OrderCommand.{OrderCommand}
use Rattle.trade.specs.declared.commands.StockCommand.{StockCommand}
use Rattle.purchasing.specs.declared.orders.Orders.{Orders}
use Rattle.warehouse.specs.declared.stocks.Stocks.{Stocks}
use Rattle.billing.specs.declared.accounts.Accounts.{Accounts}
use Rattle.keep.specs.Tables.{empty}
use Rattle.keep_plain.specs.Memory.{tables_of}
use Rattle.keep_plain.specs.declared.plain.PlainKeep.{PlainKeep}
use Rattle.laws_stores.specs.Sight.{AllTables, all_empty}
use Rattle.schedule_io.specs.InMemory.{plain}
use Rattle.schedule_io.specs.Opened.{AreOpened}

-- three tables alike are all tables alike
pub joined : (a b : AllTables) → a.purchasing ≡ b.purchasing → a.warehouse ≡ b.warehouse → a.billing ≡ b.billing → a ≡ b
joined a b one two three =
    ap (λ p. record { purchasing = p; warehouse = a.warehouse; billing = a.billing }) one
    ∙ ap (λ w. record { purchasing = b.purchasing; warehouse = w; billing = a.billing }) two
    ∙ ap (λ x. record { purchasing = b.purchasing; warehouse = b.warehouse; billing = x }) three

-- three new stores have empty tables, and a stop leaves no others
pub opened_empty : (o : PlainKeep Orders (Option OrderState) OrderCommand)
    (s : PlainKeep Stocks StockState StockCommand)
    (a : PlainKeep Accounts AccountState AccountCommand)
    → tables_of o ≡ empty → tables_of s ≡ empty → tables_of a ≡ empty
    → AreOpened (λ t. t ≡ all_empty) (record { purchasing = plain o; warehouse = plain s; billing = plain a })
opened_empty o s a one two three = record {
  new = record {
    purchasing = record { usable = refl; failures = refl; armed = refl };
    warehouse = record { usable = refl; failures = refl; armed = refl };
    billing = record { usable = refl; failures = refl; armed = refl };
  };
  found = λ clean t may. joined t all_empty (may.purchasing ∙ one) (may.warehouse ∙ two) (may.billing ∙ three);
}
