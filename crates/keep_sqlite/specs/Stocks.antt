-- How stocks stand in the rows of a warehouse: a head each, and a line for each order.
use Rattle.std.specs.Prelude.{ℕ, ◌+◌, pos, Bool, true, false, List, [], ◌∷◌, refl}
use Rattle.sqlite.specs.declared.types.Value.TheVariants.{Int, Text}
use Rattle.sqlite_value.specs.Order.{Row, column}
use Rattle.base.specs.declared.entity.Kind.{Kind}
use Rattle.base.specs.declared.entity.Kind.TheVariants as kind
use Rattle.trade.specs.Lines.{Line}
use Rattle.trade.specs.Stocks.{StockState}
use Rattle.trade.specs.declared.commands.StockCommand.{StockCommand}
use Rattle.sql_bodies.specs.Reading.{read_stock_command}
use Rattle.sql_bodies.specs.Words.{stock_phase_in}
use Rattle.sql_rows.specs.Schema.{warehouse}
use Rattle.sql_rows.specs.Tables.{Cells}
use Rattle.sql_rows.specs.declared.service.Service.TheVariants.{Warehouse}
use Rattle.keep_sqlite.specs.Filing.{Filing}
use Rattle.keep_sqlite.specs.Tables.{number_in}
use Rattle.keep_sqlite.specs.Holders.{Holders, holder_in, no_holder}

abbrev pub is_stock : Kind → Bool
is_stock kind.Stock = true
is_stock _ = false

-- the stock whose numbers stand from this column on
abbrev pub stock_from : ℕ → Row → List Line → StockState
stock_from at r lines = record {
  on_hand = number_in (column r at);
  held = number_in (column r (at + 1));
  shipped = number_in (column r (at + 2));
  received = number_in (column r (at + 3));
  lines = lines;
}

-- the columns of a head behind its rowid
abbrev pub stock_cells : List ℕ → StockState → Cells
stock_cells key x =
    Text key ∷ Int (pos x.on_hand) ∷ Int (pos x.held) ∷ Int (pos x.shipped) ∷ Int (pos x.received) ∷ []

abbrev pub stock_rows : Holders StockState
stock_rows = record { is_one = is_stock; state = stock_from 2; phase_in = stock_phase_in }

abbrev pub stocks : Filing StockState StockCommand
stocks = record {
  schema = warehouse;
  entity = λ db e. holder_in stock_rows e (db 9) (db 11);
  command = read_stock_command;
  is_service = record { service = Warehouse; is = refl };
  apart = (refl, (refl, (refl, tt)));
  depends = λ old new kept i e. holder_in stock_rows e (kept.0 i) (kept.1.0 i);
  nothing = λ db none e. no_holder stock_rows e (db 9) (db 11) none.0;
}
