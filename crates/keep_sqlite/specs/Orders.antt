-- How orders stand in the rows of purchasing: a head each, and a line for each stock.
use Rattle.std.specs.Prelude.{◌≡◌, ℕ, pos, true, List, [], ◌∷◌, map, Option, Some, None, option_map}
use Rattle.std.specs.Prelude.{filter, find, refl}
use Rattle.std.proofs.Common.{ap, ◌∙◌}
use Rattle.sqlite.specs.declared.types.Value.{Value}
use Rattle.sqlite.specs.declared.types.Value.TheVariants.{Int, Text}
use Rattle.sqlite_value.specs.Order.{Row, column, bytes}
use Rattle.activities.specs.Words.{phase_word}
use Rattle.base.specs.Entity.{is_key}
use Rattle.base.specs.Number.{IsNumber}
use Rattle.base.specs.declared.entity.Kind.{Kind}
use Rattle.base.specs.declared.entity.Kind.TheVariants as kind
use Rattle.trade.specs.declared.commands.OrderCommand.{OrderCommand}
use Rattle.trade.specs.Orders.{OrderState, Partner}
use Rattle.trade.specs.Words.{status_word}
use Rattle.trade.specs.declared.status.Status.{Status}
use Rattle.sql_bodies.specs.OrderRows.{order_from, stocks_in, stocks_with, partner_in, numbered}
use Rattle.sql_bodies.specs.Reading.{read_order_command}
use Rattle.sql_bodies.specs.Steps.{steps}
use Rattle.sql_bodies.specs.Words.{status_in}
use Rattle.sql_rows.specs.Schema.{purchasing}
use Rattle.sql_rows.specs.Tables.{Cells, has_key, text_key}
use Rattle.sql_rows.specs.declared.service.Service.TheVariants.{Purchasing}
use Rattle.keep_sqlite.specs.Filing.{Filing}
use Rattle.keep_sqlite.specs.Tables.{number_in}

-- the stock of these values: its key, how much it was asked for, and the word of its phase
abbrev pub stock_told : Value → Value → Value → Option Partner
stock_told key n phase = partner_in kind.Stock (bytes key) (number_in n) (bytes phase)

-- the place of a line's row among its order's, and the stock that it tells
abbrev pub line_at : Row → ℕ
line_at r = number_in (column r 2)

abbrev pub stock_at : Row → Option Partner
stock_at r = stock_told (column r 3) (column r 4) (column r 5)

-- the order with these stocks, of these values: the key of its account, the amount, the word of its status, and that of
-- the account's phase
abbrev pub order_told : Value → Value → Value → Value → Option (List Partner) → Option OrderState
order_told account amount status phase stocks = order_from (status_in (bytes status)) stocks
    (partner_in kind.Account (bytes account) (number_in amount) (bytes phase))

-- the order that a head and its lines tell
abbrev pub order_in : Option Row → List Row → Option OrderState
order_in None lines = None
order_in (Some head) lines =
    order_told (column head 2) (column head 3) (column head 4) (column head 5) (stocks_in line_at stock_at lines)

-- the order of an entity, by the heads and the lines; only orders have one
abbrev pub order_at : Kind → List ℕ → List Row → List Row → Option OrderState
order_at kind.Order key heads lines =
    order_in (find (has_key (text_key key)) heads) (filter (has_key (text_key key)) lines)
order_at kind.Stock key heads lines = None
order_at kind.Account key heads lines = None

-- where there are no heads, there is none; the filing names it
pub no_order : (k : Kind) (key : List ℕ) (lines : List Row) → order_at k key [] lines ≡ None
no_order kind.Order key lines = refl
no_order kind.Stock key lines = refl
no_order kind.Account key lines = refl

-- a row of an order's state is that of an order that was placed
abbrev pub placed : Option OrderState → Option (Option OrderState)
placed order = option_map (λ o. Some o) order

abbrev pub orders : Filing (Option OrderState) OrderCommand
orders = record {
  schema = purchasing;
  entity = λ db e. placed (order_at e.kind e.key (db 9) (db 11));
  command = read_order_command;
  is_service = record { service = Purchasing; is = refl };
  apart = (refl, (refl, (refl, tt)));
  depends = λ old new kept i e. placed (order_at e.kind e.key (kept.0 i) (kept.1.0 i));
  nothing = λ db none e.
      ap (λ heads. placed (order_at e.kind e.key heads (db 11))) none.0 ∙ ap placed (no_order e.kind e.key (db 11));
}

-- ---- as answers show them

-- the stocks with the one that a line tells behind them, where it is the next
abbrev pub with_shown : Row → List Partner → Option (List Partner)
with_shown r stocks = stocks_with (number_in (column r 0)) (stock_told (column r 1) (column r 2) (column r 3)) stocks

-- the stocks that lines tell, in order
abbrev pub shown_stocks : List Row → Option (List Partner)
shown_stocks lines = steps with_shown lines []

-- the order of the first head, if there is one
abbrev pub shown_order : List Row → List Row → Option OrderState
shown_order [] lines = None
shown_order (head ∷ heads) lines =
    order_told (column head 0) (column head 1) (column head 2) (column head 3) (shown_stocks lines)

-- ---- as they are written

-- what holds of every partner: its key is a key, and its number is from 1 to 2^40
abbrev pub IsNamed : Partner → Type 0
IsNamed p = (is_key p.entity.key ≡ true) × IsNumber p.n

-- the cells of an order's head, and of the line of a stock under its number
abbrev pub head_cells : List ℕ → Status → Partner → Cells
head_cells key status account = Text key ∷ Text account.entity.key ∷ Int (pos account.n) ∷ Text (status_word status)
    ∷ Text (phase_word account.phase) ∷ []

abbrev pub line_cells : List ℕ → ℕ × Partner → Cells
line_cells key q =
    Text key ∷ Int (pos q.0) ∷ Text q.1.entity.key ∷ Int (pos q.1.n) ∷ Text (phase_word q.1.phase) ∷ []

abbrev pub lines_cells : List ℕ → List Partner → List Cells
lines_cells key stocks = map (line_cells key) (numbered 1 stocks)
