-- The reactions of a stock.
use Rattle.std.specs.Prelude.{ℕ, ◌+◌, ◌-◌, ◌||◌, nat_le, nat_lt, ◌==◌, List, [], Result, Ok, Err, if◌then◌else◌}
use Rattle.base.specs.declared.limits.TheConstants.{MAX_NUMBER}
use Rattle.trade.specs.declared.commands.StockCommand.{StockCommand}
use Rattle.trade.specs.declared.commands.StockCommand.TheVariants.{Receive}
use Rattle.activities.specs.declared.handler.Refusal.{Refusal}
use Rattle.activities.specs.declared.handler.Refusal.TheVariants.{OutOfRange}
use Rattle.activities.specs.declared.outs.Out.{Out}
use Rattle.trade.specs.Holding.{Holding, on_line_message}
use Rattle.trade.specs.Lines.{Line}
use Rattle.activities.specs.Reaction.{Reactions}

-- a stock: what is there, how much of it is held, what was shipped and received in all, and its lines
pub record StockState : Type 0 where
  pub on_hand : ℕ
  pub held : ℕ
  pub shipped : ℕ
  pub received : ℕ
  pub lines : List Line

-- so much comes in: 1 at least, and no more than 2^40 in all
abbrev pub on_stock_command : StockState → StockCommand → Result (StockState × List Out) Refusal
on_stock_command x (Receive n) =
    if n == 0 || nat_lt MAX_NUMBER (x.received + n)
    then Err OutOfRange
    else Ok (record x { on_hand = x.on_hand + n; received = x.received + n }, [])

-- what is on hand and isn't held can be held; what is finished is shipped
abbrev pub stock_holding : Holding StockState
stock_holding = record {
  lines = λ x. x.lines;
  with_lines = λ x lines. record x { lines = lines };
  fits = λ x n. nat_le (x.held + n) x.on_hand;
  hold = λ x n. record x { held = x.held + n };
  finish = λ x n. record x { on_hand = x.on_hand - n; held = x.held - n; shipped = x.shipped + n };
  free = λ x n. record x { held = x.held - n };
}

-- stocks: nothing is there at first
abbrev pub stock_reactions : Reactions StockState StockCommand
stock_reactions = record {
  opening = record { on_hand = 0; held = 0; shipped = 0; received = 0; lines = [] };
  on_command = on_stock_command;
  on_message = on_line_message stock_holding;
}
