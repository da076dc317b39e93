-- The commands of seats, as words say them.
use Rattle.std.specs.Prelude.{ℕ, nat_le, List, [], ◌∷◌, ◌++◌, length, Option, Some, None, if◌then◌else◌}
use Rattle.text.specs.Numerals.{number_of}
use Rattle.base.specs.Entity.{order_of, stock_of, account_of}
use Rattle.trade.specs.declared.commands.OrderCommand.{OrderCommand}
use Rattle.trade.specs.declared.commands.OrderCommand.TheVariants.{Place, CancelOrder}
use Rattle.trade.specs.declared.commands.StockCommand.{StockCommand}
use Rattle.trade.specs.declared.commands.StockCommand.TheVariants.{Receive}
use Rattle.trade.specs.declared.commands.AccountCommand.{AccountCommand}
use Rattle.trade.specs.declared.commands.AccountCommand.TheVariants.{SetLimit}
use Rattle.trade.specs.declared.items.Item.{Item}
use Rattle.trade.specs.Items.{item}
use Rattle.schedule_text.specs.declared.event.SeatCommand.{SeatCommand}
use Rattle.schedule_text.specs.Arguments.{seat_of, key_of}
use Rattle.schedule_text.specs.Words.{◌>>=◌}

-- STOCK N
abbrev pub item_of : List (List ℕ) → Option Item
item_of (stock ∷ n ∷ []) = do
  stock ← key_of stock
  n ← number_of n
  Some (item stock n)
item_of _ = None

-- what is asked for once these items are, before the others
abbrev pub asked_first : List Item → OrderCommand → OrderCommand
asked_first items (Place others account amount) = Place (items ++ others) account amount
asked_first items CancelOrder = CancelOrder

-- ACCOUNT AMOUNT, behind STOCK N for each stock
abbrev pub pairs_of : List (List ℕ) → Option OrderCommand
pairs_of (account ∷ amount ∷ []) = do
  account ← key_of account
  amount ← number_of amount
  Some (Place [] account amount)
pairs_of (stock ∷ n ∷ words) = do
  item ← item_of (stock ∷ n ∷ [])
  others ← pairs_of words
  Some (asked_first (item ∷ []) others)
pairs_of _ = None

-- the same, for 16 stocks at most
abbrev pub placing_of : List (List ℕ) → Option OrderCommand
placing_of words = if nat_le (length words) 34 then pairs_of words else None

-- SEAT KEY STOCK N .. ACCOUNT AMOUNT
abbrev pub place_of : List (List ℕ) → Option (SeatCommand OrderCommand)
place_of (seat ∷ key ∷ arguments) = do
  seat ← seat_of seat
  key ← key_of key
  command ← placing_of arguments
  Some (record { seat = seat; entity = order_of key; command = command })
place_of _ = None

-- SEAT KEY
abbrev pub cancel_of : List (List ℕ) → Option (SeatCommand OrderCommand)
cancel_of (seat ∷ key ∷ []) = do
  seat ← seat_of seat
  key ← key_of key
  Some (record { seat = seat; entity = order_of key; command = CancelOrder })
cancel_of _ = None

-- SEAT KEY N
abbrev pub receive_of : List (List ℕ) → Option (SeatCommand StockCommand)
receive_of (seat ∷ key ∷ n ∷ []) = do
  seat ← seat_of seat
  key ← key_of key
  n ← number_of n
  Some (record { seat = seat; entity = stock_of key; command = Receive n })
receive_of _ = None

-- SEAT KEY N
abbrev pub limit_of : List (List ℕ) → Option (SeatCommand AccountCommand)
limit_of (seat ∷ key ∷ n ∷ []) = do
  seat ← seat_of seat
  key ← key_of key
  n ← number_of n
  Some (record { seat = seat; entity = account_of key; command = SetLimit n })
limit_of _ = None
