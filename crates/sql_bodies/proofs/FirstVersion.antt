-- What version 1 wrote of an order's command is read as that command, and what is read is what was written.
use Rattle.std.proofs.Common.{◌≡◌, ℕ, List, [], ◌∷◌, false, Some, None, refl, sym, ap, ◌∙◌, arith}
use Rattle.std.specs.Prelude.{option_and_then}
use Rattle.json.proofs.Printed.Decimals.{IsNumber-decimal}
use Rattle.serde_json.specs.Read.{read}
use Rattle.serde_json.specs.Written.{compact_text, has_float}
use Rattle.serde_json.proofs.Numbers.{number_of-decimal}
use Rattle.serde_json.proofs.OnLiterals.{serde_json_on_literals}
use Rattle.trade.specs.declared.items.Item.{Item}
use Rattle.trade.specs.declared.commands.OrderCommand.{OrderCommand}
use Rattle.trade.specs.declared.commands.OrderCommand.TheVariants.{Place, CancelOrder}
use Rattle.sql_bodies.specs.Bodies.{order_body, IsOrderCommand, order_data}
use Rattle.sql_bodies.specs.FirstVersion.{first_order_body, IsFirstOrderCommand, first_order_data, first_order_in}
use Rattle.sql_bodies.specs.FirstVersion.{read_first_order_command}
use Rattle.sql_bodies.specs.Reading.{written_so, IsExact}
use Rattle.sql_bodies.proofs.Compact.{read-compact_text}
use Rattle.sql_bodies.proofs.Written.{only_so, read_back, order_text, order_is_read}

-- the text of version 1 is the compact JSON of its object
pub first_text : (c : OrderCommand) → compact_text (first_order_data c) ≡ first_order_body c
unfolding serde_json_on_literals
first_text (Place (i ∷ []) account amount) = refl
first_text (Place [] account amount) = refl
first_text (Place (i ∷ j ∷ is) account amount) = refl
first_text CancelOrder = refl

-- no number with a point is in an object of version 1
pub first_is_plain : (c : OrderCommand) → has_float (first_order_data c) ≡ false
first_is_plain (Place (i ∷ []) account amount) = refl
first_is_plain (Place [] account amount) = refl
first_is_plain (Place (i ∷ j ∷ is) account amount) = refl
first_is_plain CancelOrder = refl

first_is_read : (c : OrderCommand) → IsFirstOrderCommand c
    → read (compact_text (first_order_data c)) ≡ Some (first_order_data c)
first_is_read (Place (i ∷ []) account amount) is = read-compact_text (first_order_data (Place (i ∷ []) account amount))
    (tt, (IsNumber-decimal amount is.0, (IsNumber-decimal i.quantity is.2.0, (tt, (tt, tt)))))
    (omega arith)
    (rw (number_of-decimal amount is.0, number_of-decimal i.quantity is.2.0) refl)
first_is_read (Place [] account amount) is = absurd is
first_is_read (Place (i ∷ j ∷ rest) account amount) is = absurd is
first_is_read CancelOrder is = read-compact_text (first_order_data CancelOrder) (tt, tt) (omega arith) refl

first_is_found : (c : OrderCommand) → IsFirstOrderCommand c → first_order_in (first_order_data c) ≡ Some c
first_is_found (Place (i ∷ []) account amount) is = rw (is.1, is.2.1) refl
first_is_found (Place [] account amount) is = absurd is
first_is_found (Place (i ∷ j ∷ rest) account amount) is = absurd is
first_is_found CancelOrder is = refl

-- in version 1 a body was read as a command just where it was that command's body
pub first_orders_are_exact : IsExact IsFirstOrderCommand first_order_body read_first_order_command
first_orders_are_exact = record {
  back = λ c is. read_back first_order_body first_order_data first_order_in c (first_text c) (first_is_read c is)
      (first_is_found c is);
  only = λ text c e. only_so first_order_body text (option_and_then first_order_in (read text)) c e;
}

-- ---- today's form

-- a placing whose lines stand in a list tells no line beside its account
none_is_found : (lines : List Item) (account : List ℕ) (amount : ℕ) → IsOrderCommand (Place lines account amount)
    → first_order_in (order_data (Place lines account amount)) ≡ None
none_is_found lines account amount is = rw is.1 refl

-- a placing in today's form is no body of version 1
pub lines_are_refused : (lines : List Item) (account : List ℕ) (amount : ℕ) → IsOrderCommand (Place lines account amount)
    → read_first_order_command (order_body (Place lines account amount)) ≡ None
lines_are_refused lines account amount is =
    let c = Place lines account amount in
    ap (λ d. option_and_then (written_so first_order_body (order_body c)) (option_and_then first_order_in d))
    (ap read (sym (order_text c)) ∙ order_is_read c is)
    ∙ ap (option_and_then (written_so first_order_body (order_body c))) (none_is_found lines account amount is)
