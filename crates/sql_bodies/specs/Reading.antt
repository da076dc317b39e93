-- Which command a text is the body of.
use Rattle.std.specs.Prelude.{◌≡◌, ℕ, List, [], ◌∷◌, codes, Option, Some, None, if◌then◌else◌}
use Rattle.std.specs.Option.{option_map, option_and_then}
use Rattle.std.specs.Str.{bytes_eq}
use Rattle.serde_json.specs.Data.{Data, Items, item, no_items}
use Rattle.serde_json.specs.Find.{get, as_number, as_u64, as_str, as_array}
use Rattle.serde_json.specs.Read.{read}
use Rattle.base.specs.Entity.{is_key}
use Rattle.trade.specs.Items as trade
use Rattle.trade.specs.declared.items.Item.{Item}
use Rattle.trade.specs.declared.commands.OrderCommand.{OrderCommand}
use Rattle.trade.specs.declared.commands.OrderCommand.TheVariants.{Place, CancelOrder}
use Rattle.trade.specs.declared.commands.StockCommand.{StockCommand}
use Rattle.trade.specs.declared.commands.StockCommand.TheVariants.{Receive}
use Rattle.trade.specs.declared.commands.AccountCommand.{AccountCommand}
use Rattle.trade.specs.declared.commands.AccountCommand.TheVariants.{SetLimit}
use Rattle.sql_bodies.specs.Bodies.{order_body, stock_body, account_body}

-- ---- members of an object

abbrev pub text_at : List ℕ → Data → Option (List ℕ)
text_at name d = option_and_then as_str (get name d)

abbrev pub number_at : List ℕ → Data → Option ℕ
number_at name d = option_and_then as_u64 (option_and_then as_number (get name d))

-- a text, where it is a key
abbrev pub as_key : List ℕ → Option (List ℕ)
as_key text = if is_key text then Some text else None

abbrev pub key_at : List ℕ → Data → Option (List ℕ)
key_at name d = option_and_then as_key (text_at name d)

-- ---- what an object stands for, other members left aside

abbrev pub line_in : Data → Option Item
line_in d = option_and_then (λ n. option_map (λ stock. trade.item stock n) (key_at (codes "stock") d))
    (number_at (codes "n") d)

abbrev pub lines_in : Items → Option (List Item)
lines_in no_items = Some []
lines_in (item d ds) = option_and_then (λ i. option_map (λ is. i ∷ is) (lines_in ds)) (line_in d)

abbrev pub place_in : Data → Option OrderCommand
place_in d =
    option_and_then (λ amount. option_and_then (λ account. option_map (λ lines. Place lines account amount)
    (option_and_then lines_in (option_and_then as_array (get (codes "lines") d))))
    (key_at (codes "account") d))
    (number_at (codes "amount") d)

-- a number under this word
abbrev pub numbered_in : List ℕ → Data → Option ℕ
numbered_in word d = option_and_then (λ op. if bytes_eq op word then number_at (codes "n") d else None)
    (text_at (codes "op") d)

abbrev pub order_in : Data → Option OrderCommand
order_in d = option_and_then (λ op. if bytes_eq op (codes "place") then place_in d
    else if bytes_eq op (codes "cancel_order") then Some CancelOrder else None)
    (text_at (codes "op") d)

abbrev pub stock_in : Data → Option StockCommand
stock_in d = option_map Receive (numbered_in (codes "receive") d)

abbrev pub account_in : Data → Option AccountCommand
account_in d = option_map SetLimit (numbered_in (codes "set_limit") d)

-- ---- what a text is the body of

-- what an object stands for, where that has this very text: another spelling is nobody's
abbrev pub written_so : {C : Type 0} → (C → List ℕ) → List ℕ → C → Option C
written_so body text c = if bytes_eq (body c) text then Some c else None

abbrev pub read_body : {C : Type 0} → (C → List ℕ) → (Data → Option C) → List ℕ → Option C
read_body body of_data text = option_and_then (written_so body text) (option_and_then of_data (read text))

abbrev pub read_order_command : List ℕ → Option OrderCommand
read_order_command text = read_body order_body order_in text

abbrev pub read_stock_command : List ℕ → Option StockCommand
read_stock_command text = read_body stock_body stock_in text

abbrev pub read_account_command : List ℕ → Option AccountCommand
read_account_command text = read_body account_body account_in text

-- ---- what is promised of both ways

-- what is written is read as the same, and what is read is what is written: so no two are written alike
pub record IsExact {X Text : Type 0} (Is : X → Type 0) (written : X → Text) (read : Text → Option X) : Type 0 where
  pub back : (x : X) → Is x → read (written x) ≡ Some x
  pub only : (text : Text) (x : X) → read text ≡ Some x → written x ≡ text
