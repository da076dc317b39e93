-- What version 1 kept of orders: each asked one stock, which stood beside the account and not in a list.
use Rattle.std.specs.Prelude.{◌≡◌, ℕ, ◌<◌, ◌^◌, true, List, [], ◌∷◌, codes, decimal, ⊤, Option, Some, None}
use Rattle.std.specs.Prelude.{if◌then◌else◌}
use Rattle.std.specs.List.{concat}
use Rattle.std.specs.Option.{option_map, option_and_then}
use Rattle.std.specs.Str.{bytes_eq}
use Rattle.json.specs.Print.{quoted}
use Rattle.serde_json.specs.Data.{Data, null, number, unsigned, string, object, member, no_members}
use Rattle.base.specs.Entity.{is_key}
use Rattle.trade.specs.declared.commands.OrderCommand.{OrderCommand}
use Rattle.trade.specs.declared.commands.OrderCommand.TheVariants.{Place, CancelOrder}
use Rattle.sql_bodies.specs.Bodies.{IsLine}
use Rattle.sql_bodies.specs.Reading.{key_at, line_in, number_at, read_body, text_at}

-- ---- what was written

-- What an order was asked for. A placing of no line or of several wasn't there: `null` stands for it, which is nobody's
-- body.
abbrev pub first_order_body : OrderCommand → List ℕ
first_order_body (Place (i ∷ []) account amount) = concat (codes "{\"account\":" ∷ quoted account
    ∷ codes ",\"amount\":" ∷ decimal amount
    ∷ codes ",\"n\":" ∷ decimal i.quantity
    ∷ codes ",\"op\":\"place\",\"stock\":" ∷ quoted i.stock
    ∷ codes "}" ∷ [])
first_order_body (Place [] account amount) = codes "null"
first_order_body (Place (i ∷ j ∷ is) account amount) = codes "null"
first_order_body CancelOrder = codes "{\"op\":\"cancel_order\"}"

-- what held of each command: a placing had one line, keys are keys, and numbers have 64 bits
abbrev pub IsFirstOrderCommand : OrderCommand → Type 0
IsFirstOrderCommand (Place (i ∷ []) account amount) = (amount < 2 ^ 64) × (is_key account ≡ true) × IsLine i
IsFirstOrderCommand (Place [] account amount) = ⊥
IsFirstOrderCommand (Place (i ∷ j ∷ is) account amount) = ⊥
IsFirstOrderCommand CancelOrder = ⊤

-- the object whose text this is
abbrev pub first_order_data : OrderCommand → Data
first_order_data (Place (i ∷ []) account amount) = object
    (member (codes "account") (string account)
    (member (codes "amount") (number (unsigned amount))
    (member (codes "n") (number (unsigned i.quantity))
    (member (codes "op") (string (codes "place"))
    (member (codes "stock") (string i.stock) no_members)))))
first_order_data (Place [] account amount) = null
first_order_data (Place (i ∷ j ∷ is) account amount) = null
first_order_data CancelOrder = object (member (codes "op") (string (codes "cancel_order")) no_members)

-- ---- what is read

-- the placing that an object stood for: its one line stands in the object itself
abbrev pub first_place_in : Data → Option OrderCommand
first_place_in d =
    option_and_then (λ amount. option_and_then (λ account. option_map (λ line. Place (line ∷ []) account amount)
    (line_in d))
    (key_at (codes "account") d))
    (number_at (codes "amount") d)

abbrev pub first_order_in : Data → Option OrderCommand
first_order_in d = option_and_then (λ op. if bytes_eq op (codes "place") then first_place_in d
    else if bytes_eq op (codes "cancel_order") then Some CancelOrder else None)
    (text_at (codes "op") d)

-- the command whose body this was, by its exact spelling alone
abbrev pub read_first_order_command : List ℕ → Option OrderCommand
read_first_order_command text = read_body first_order_body first_order_in text
