-- What a journal keeps of commands: JSON, its keys sorted and without spaces.
use Rattle.std.specs.Prelude.{◌≡◌, ℕ, ◌<◌, ◌^◌, true, List, [], ◌∷◌, ◌++◌, map, codes, decimal, ⊤}
use Rattle.std.specs.List.{AllByRecursion, concat, join_by}
use Rattle.json.specs.Print.{quoted}
use Rattle.serde_json.specs.Data.{Data, Items, number, unsigned, string, array, object, member, no_members}
use Rattle.serde_json.specs.View.{items_of}
use Rattle.base.specs.Entity.{is_key}
use Rattle.trade.specs.declared.items.Item.{Item}
use Rattle.trade.specs.declared.commands.OrderCommand.{OrderCommand}
use Rattle.trade.specs.declared.commands.OrderCommand.TheVariants.{Place, CancelOrder}
use Rattle.trade.specs.declared.commands.StockCommand.{StockCommand}
use Rattle.trade.specs.declared.commands.StockCommand.TheVariants.{Receive}
use Rattle.trade.specs.declared.commands.AccountCommand.{AccountCommand}
use Rattle.trade.specs.declared.commands.AccountCommand.TheVariants.{SetLimit}

-- ---- what is written

-- so much of a stock
abbrev pub line_body : Item → List ℕ
line_body i =
    concat (codes "{\"n\":" ∷ decimal i.quantity ∷ codes ",\"stock\":" ∷ quoted i.stock ∷ codes "}" ∷ [])

-- what an order is asked for
abbrev pub order_body : OrderCommand → List ℕ
order_body (Place lines account amount) = concat (codes "{\"account\":" ∷ quoted account
    ∷ codes ",\"amount\":" ∷ decimal amount
    ∷ codes ",\"lines\":[" ∷ join_by line_body (codes ",") lines
    ∷ codes "],\"op\":\"place\"}" ∷ [])
order_body CancelOrder = codes "{\"op\":\"cancel_order\"}"

-- what a stock is asked for
abbrev pub stock_body : StockCommand → List ℕ
stock_body (Receive n) = codes "{\"n\":" ++ decimal n ++ codes ",\"op\":\"receive\"}"

-- what an account is asked for
abbrev pub account_body : AccountCommand → List ℕ
account_body (SetLimit n) = codes "{\"n\":" ++ decimal n ++ codes ",\"op\":\"set_limit\"}"

-- ---- what holds of each command: keys are keys, and numbers have 64 bits

abbrev pub IsLine : Item → Type 0
IsLine i = (i.quantity < 2 ^ 64) × (is_key i.stock ≡ true)

abbrev pub IsOrderCommand : OrderCommand → Type 0
IsOrderCommand (Place lines account amount) = (amount < 2 ^ 64) × (is_key account ≡ true) × AllByRecursion IsLine lines
IsOrderCommand CancelOrder = ⊤

abbrev pub IsStockCommand : StockCommand → Type 0
IsStockCommand (Receive n) = n < 2 ^ 64

abbrev pub IsAccountCommand : AccountCommand → Type 0
IsAccountCommand (SetLimit n) = n < 2 ^ 64

-- ---- the objects whose text this is

abbrev pub line_data : Item → Data
line_data i = object (member (codes "n") (number (unsigned i.quantity))
    (member (codes "stock") (string i.stock) no_members))

abbrev pub lines_data : List Item → Items
lines_data is = items_of (map line_data is)

abbrev pub order_data : OrderCommand → Data
order_data (Place lines account amount) = object
    (member (codes "account") (string account)
    (member (codes "amount") (number (unsigned amount))
    (member (codes "lines") (array (lines_data lines))
    (member (codes "op") (string (codes "place")) no_members))))
order_data CancelOrder = object (member (codes "op") (string (codes "cancel_order")) no_members)

-- the object of a word and a number
abbrev pub with_number : List ℕ → ℕ → Data
with_number word n = object (member (codes "n") (number (unsigned n)) (member (codes "op") (string word) no_members))

abbrev pub stock_data : StockCommand → Data
stock_data (Receive n) = with_number (codes "receive") n

abbrev pub account_data : AccountCommand → Data
account_data (SetLimit n) = with_number (codes "set_limit") n
