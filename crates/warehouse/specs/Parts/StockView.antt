-- A stock as contracts see it, and what holds of its fields.
use Rattle.trade.specs.Sound.{IsStockSound}
use Rattle.trade.specs.Stocks.{StockState}
use Rattle.warehouse.specs.declared.stock.Stock.TheInside.{Inside}

-- its numbers and its lines
abbrev pub stock_in : Inside → StockState
stock_in a = record { on_hand = a.on_hand; held = a.held; shipped = a.shipped; received = a.received; lines = a.lines }

-- it is sound
abbrev pub IsWhole : Inside → Type 0
IsWhole a = IsStockSound (stock_in a)
