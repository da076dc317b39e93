-- What is written of a command is read as that command, and what is read is what is written.
use Rattle.std.proofs.Common.{◌≡◌, ◌≤◌, ℕ, List, [], ◌∷◌, ◌++◌, true, Option, Some, None, refl, sym, ap, ◌∙◌}
use Rattle.std.proofs.Common.{codes, decimal, false, ap₂, arith, append_assoc, Result, IfOk, string_bytes, String}
use Rattle.std.specs.Prelude.{option_and_then}
use Rattle.std.specs.List.{AllByRecursion, join_by, flat_map}
use Rattle.std.specs.Str.{bytes_eq}
use Rattle.std.specs.declared.alloc.Global.{Global}
use Rattle.std.specs.declared.alloc.AllocError.{AllocError}
use Rattle.std.proofs.lemmas.Option.{cond_some}
use Rattle.std.proofs.lemmas.Result.{IfOk-weaker}
use Rattle.std.proofs.lemmas.Slice.Eq.{bytes_eq-Decides}
use Rattle.json.specs.Print.{quoted}
use Rattle.json.specs.Tree.{ItemsHaveNumbers, items_depth}
use Rattle.json.proofs.Printed.Decimals.{IsNumber-decimal}
use Rattle.serde_json.specs.Data.{Data}
use Rattle.serde_json.specs.Read.{read, of_items}
use Rattle.serde_json.specs.Written.{items_outline, compact_text, items_text, has_float, items_have_float}
use Rattle.serde_json.proofs.Numbers.{number_of-decimal}
use Rattle.serde_json.proofs.OnLiterals.{serde_json_on_literals}
use Rattle.trade.specs.declared.items.Item.{Item}
use Rattle.trade.specs.declared.commands.OrderCommand.{OrderCommand}
use Rattle.trade.specs.declared.commands.OrderCommand.TheVariants.{Place, CancelOrder}
use Rattle.trade.specs.declared.commands.StockCommand.{StockCommand}
use Rattle.trade.specs.declared.commands.StockCommand.TheVariants.{Receive}
use Rattle.trade.specs.declared.commands.AccountCommand.{AccountCommand}
use Rattle.trade.specs.declared.commands.AccountCommand.TheVariants.{SetLimit}
use Rattle.sql_bodies.specs.Bodies.{line_body, order_body, stock_body, account_body, IsLine, IsOrderCommand}
use Rattle.sql_bodies.specs.Bodies.{IsStockCommand, IsAccountCommand, line_data, lines_data, order_data, stock_data}
use Rattle.sql_bodies.specs.Bodies.{account_data}
use Rattle.sql_bodies.specs.Reading.{line_in, lines_in, order_in, stock_in, account_in, written_so, read_body}
use Rattle.sql_bodies.specs.Reading.{IsExact, read_order_command, read_stock_command, read_account_command}
use Rattle.sql_bodies.proofs.Compact.{read-compact_text}

-- ---- any command

pub only_so : {C : Type 0} (body : C → List ℕ) (text : List ℕ) (b : Option C) (c : C)
    → option_and_then (written_so body text) b ≡ Some c → body c ≡ text
only_so body text None c e = absurd cc
only_so body text (Some b) c e =
    let parts = cond_some (bytes_eq (body b) text) b c e in
    ap body (sym parts.1) ∙ (bytes_eq-Decides (body b) text).0 parts.0

so_written : {C : Type 0} (body : C → List ℕ) (c : C) → written_so body (body c) c ≡ Some c
so_written body c =
    let same : bytes_eq (body c) (body c) ≡ true = (bytes_eq-Decides (body c) (body c)).1 refl in
    rw same refl

pub read_back : {C : Type 0} (body : C → List ℕ) (data_of : C → Data) (of_data : Data → Option C) (c : C)
    → compact_text (data_of c) ≡ body c → read (compact_text (data_of c)) ≡ Some (data_of c)
    → of_data (data_of c) ≡ Some c
    → read_body body of_data (body c) ≡ Some c
read_back body data_of of_data c text reads same =
    ap (λ d. option_and_then (written_so body (body c)) (option_and_then of_data d)) (ap read (sym text) ∙ reads)
    ∙ ap (option_and_then (written_so body (body c))) same
    ∙ so_written body c

-- what is written for a value is written for its command
pub written_as : {C : Type 0} (body : C → List ℕ) (data_of : C → Data) (c : C) (v : Data) → v ≡ data_of c
    → has_float (data_of c) ≡ false → compact_text (data_of c) ≡ body c
    → (result : Result (String Global) AllocError)
    → IfOk result (λ s. has_float v ≡ false → string_bytes s ≡ compact_text v)
    → IfOk result (λ s. string_bytes s ≡ body c)
written_as body data_of c v is plain text result written = IfOk-weaker result _ _
    (λ s same. same (ap has_float is ∙ plain) ∙ ap compact_text is ∙ text) written

-- and reads as that command
pub reads_as : {C : Type 0} (body : C → List ℕ) (read : List ℕ → Option C) (c : C) → read (body c) ≡ Some c
    → (result : Result (String Global) AllocError) → IfOk result (λ s. string_bytes s ≡ body c)
    → IfOk result (λ s. read (string_bytes s) ≡ Some c)
reads_as body read c back result written = IfOk-weaker result _ _ (λ s same. ap read same ∙ back) written

-- ---- stocks and accounts

-- the body of a stock's command is the compact JSON of its object
pub stock_text : (c : StockCommand) → compact_text (stock_data c) ≡ stock_body c
unfolding serde_json_on_literals
stock_text (Receive n) = refl

-- the body of an account's command is the compact JSON of its object
pub account_text : (c : AccountCommand) → compact_text (account_data c) ≡ account_body c
unfolding serde_json_on_literals
account_text (SetLimit n) = refl

stock_is_read : (c : StockCommand) → IsStockCommand c → read (compact_text (stock_data c)) ≡ Some (stock_data c)
stock_is_read (Receive n) is = read-compact_text (stock_data (Receive n)) (IsNumber-decimal n is, (tt, tt))
    (omega arith)
    (rw (number_of-decimal n is) refl)

account_is_read : (c : AccountCommand) → IsAccountCommand c
    → read (compact_text (account_data c)) ≡ Some (account_data c)
account_is_read (SetLimit n) is = read-compact_text (account_data (SetLimit n)) (IsNumber-decimal n is, (tt, tt))
    (omega arith) (rw (number_of-decimal n is) refl)

-- no number with a point is in the object of a stock's command
pub stock_is_plain : (c : StockCommand) → has_float (stock_data c) ≡ false
stock_is_plain (Receive n) = refl

-- no number with a point is in the object of an account's command
pub account_is_plain : (c : AccountCommand) → has_float (account_data c) ≡ false
account_is_plain (SetLimit n) = refl

stock_is_found : (c : StockCommand) → stock_in (stock_data c) ≡ Some c
stock_is_found (Receive n) = refl

account_is_found : (c : AccountCommand) → account_in (account_data c) ≡ Some c
account_is_found (SetLimit n) = refl

-- a stock's command is read back from its body
pub stock_reads_back : (c : StockCommand) → IsStockCommand c → read_stock_command (stock_body c) ≡ Some c
stock_reads_back c is =
    read_back stock_body stock_data stock_in c (stock_text c) (stock_is_read c is) (stock_is_found c)

-- an account's command is read back from its body
pub account_reads_back : (c : AccountCommand) → IsAccountCommand c → read_account_command (account_body c) ≡ Some c
account_reads_back c is =
    read_back account_body account_data account_in c (account_text c) (account_is_read c is) (account_is_found c)

pub stock_writes_back : (text : List ℕ) (c : StockCommand) → read_stock_command text ≡ Some c → stock_body c ≡ text
stock_writes_back text c e = only_so stock_body text (option_and_then stock_in (read text)) c e

pub account_writes_back : (text : List ℕ) (c : AccountCommand) → read_account_command text ≡ Some c
    → account_body c ≡ text
account_writes_back text c e = only_so account_body text (option_and_then account_in (read text)) c e

-- ---- lines

line_text : (i : Item) → compact_text (line_data i) ≡ line_body i
unfolding serde_json_on_literals
line_text i = refl

abbrev further : Item → List ℕ
further i = codes "," ++ line_body i

-- lines behind others, up to the closing bracket
further_text : (is : List Item) → items_text true (lines_data is) ≡ flat_map further is ++ codes "]"
further_text [] = refl
further_text (i ∷ is) = ap (λ t. 44 ∷ t) (ap₂ (λ a b. a ++ b) (line_text i) (further_text is)
    ∙ sym (append_assoc (line_body i) (flat_map further is) (codes "]")))

lines_text : (is : List Item)
    → items_text false (lines_data is) ≡ join_by line_body (codes ",") is ++ codes "]"
lines_text [] = refl
lines_text (i ∷ is) = ap₂ (λ a b. a ++ b) (line_text i) (further_text is)
    ∙ sym (append_assoc (line_body i) (flat_map further is) (codes "]"))

lines_have_numbers : (is : List Item) → AllByRecursion IsLine is → ItemsHaveNumbers (items_outline (lines_data is))
lines_have_numbers [] all = tt
lines_have_numbers (i ∷ is) all = ((IsNumber-decimal i.quantity all.0.0, (tt, tt)), lines_have_numbers is all.1)

lines_are_shallow : (is : List Item) → items_depth (items_outline (lines_data is)) ≤ 1
lines_are_shallow [] = omega arith
lines_are_shallow (i ∷ is) = omega (arith, lines_are_shallow is)

lines_are_read : (is : List Item) → AllByRecursion IsLine is
    → of_items (items_outline (lines_data is)) ≡ Some (lines_data is)
lines_are_read [] all = refl
lines_are_read (i ∷ is) all = rw (number_of-decimal i.quantity all.0.0, lines_are_read is all.1) refl

line_is_found : (i : Item) → IsLine i → line_in (line_data i) ≡ Some i
line_is_found i is = rw is.1 refl

lines_are_found : (is : List Item) → AllByRecursion IsLine is → lines_in (lines_data is) ≡ Some is
lines_are_found [] all = refl
lines_are_found (i ∷ is) all = rw (line_is_found i all.0, lines_are_found is all.1) refl

-- ---- orders

-- the body of an order's command is the compact JSON of its object
pub order_text : (c : OrderCommand) → compact_text (order_data c) ≡ order_body c
unfolding serde_json_on_literals
order_text (Place lines account amount) =
    ap (λ t. codes "{\"account\":" ++ (quoted account ++ (codes ",\"amount\":" ++ (decimal amount
    ++ (codes ",\"lines\":[" ++ t)))))
    (ap (λ t. t ++ codes ",\"op\":\"place\"}") (lines_text lines)
    ∙ append_assoc (join_by line_body (codes ",") lines) (codes "]") (codes ",\"op\":\"place\"}"))
order_text CancelOrder = refl

pub order_is_read : (c : OrderCommand) → IsOrderCommand c → read (compact_text (order_data c)) ≡ Some (order_data c)
order_is_read (Place lines account amount) is = read-compact_text (order_data (Place lines account amount))
    (tt, (IsNumber-decimal amount is.0, (lines_have_numbers lines is.2, (tt, tt))))
    (omega (arith, lines_are_shallow lines))
    (rw (number_of-decimal amount is.0, lines_are_read lines is.2) refl)
order_is_read CancelOrder is = read-compact_text (order_data CancelOrder) (tt, tt) (omega arith) refl

lines_are_plain : (is : List Item) → items_have_float (lines_data is) ≡ false
lines_are_plain [] = refl
lines_are_plain (i ∷ is) = lines_are_plain is

-- no number with a point is in the object of an order's command
pub order_is_plain : (c : OrderCommand) → has_float (order_data c) ≡ false
order_is_plain (Place lines account amount) = rw (lines_are_plain lines) refl
order_is_plain CancelOrder = refl

order_is_found : (c : OrderCommand) → IsOrderCommand c → order_in (order_data c) ≡ Some c
order_is_found (Place lines account amount) is = rw (is.1, lines_are_found lines is.2) refl
order_is_found CancelOrder is = refl

-- an order's command is read back from its body
pub order_reads_back : (c : OrderCommand) → IsOrderCommand c → read_order_command (order_body c) ≡ Some c
order_reads_back c is =
    read_back order_body order_data order_in c (order_text c) (order_is_read c is) (order_is_found c is)

pub order_writes_back : (text : List ℕ) (c : OrderCommand) → read_order_command text ≡ Some c → order_body c ≡ text
order_writes_back text c e = only_so order_body text (option_and_then order_in (read text)) c e

-- ---- each is exact

-- a body is read as an order's command just where it is that command's body
pub orders_are_exact : IsExact IsOrderCommand order_body read_order_command
orders_are_exact = record { back = order_reads_back; only = order_writes_back }

-- a body is read as a stock's command just where it is that command's body
pub stocks_are_exact : IsExact IsStockCommand stock_body read_stock_command
stocks_are_exact = record { back = stock_reads_back; only = stock_writes_back }

-- a body is read as an account's command just where it is that command's body
pub accounts_are_exact : IsExact IsAccountCommand account_body read_account_command
accounts_are_exact = record { back = account_reads_back; only = account_writes_back }
