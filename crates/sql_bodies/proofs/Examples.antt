-- Examples: the bodies of commands, and what is read of texts.
use Rattle.std.proofs.Common.{◌≡◌, ℕ, List, [], ◌∷◌, ◌++◌, refl}
use Rattle.std.specs.Prelude.{codes, Some, None}
use Rattle.std.specs.Fmt.{digits}
use Rattle.std.specs.Str.{is_utf8, chars}
use Rattle.serde_json.proofs.OnLiterals.{serde_json_on_literals}
use Rattle.base.specs.Entity.{stock_of}
use Rattle.envelope.specs.declared.message.Message.TheVariants.{Tentative}
use Rattle.activities.specs.declared.input.Input.TheVariants.{FromSeat, FromEntity}
use Rattle.trade.specs.Items.{item}
use Rattle.trade.specs.declared.commands.OrderCommand.{OrderCommand}
use Rattle.trade.specs.declared.commands.OrderCommand.TheVariants.{Place, CancelOrder}
use Rattle.trade.specs.declared.commands.StockCommand.TheVariants.{Receive}
use Rattle.sql_bodies.specs.Bodies.{order_body, stock_body}
use Rattle.sql_bodies.specs.Columns.{columns_of, read_input}
use Rattle.sql_bodies.specs.FirstVersion.{first_order_body, read_first_order_command}
use Rattle.sql_bodies.specs.Reading.{read_order_command, read_stock_command}

-- 3 bolts and 4 nuts, and 500 of ann's limit
abbrev place : OrderCommand
place = Place (item (codes "bolt") 3 ∷ item (codes "nut") 4 ∷ []) (codes "ann") 500

abbrev place_text : List ℕ
place_text = codes "{\"account\":\"ann\",\"amount\":500,"
    ++ codes "\"lines\":[{\"n\":3,\"stock\":\"bolt\"},{\"n\":4,\"stock\":\"nut\"}],\"op\":\"place\"}"

a_placing_is_written : order_body place ≡ place_text
unfolding serde_json_on_literals digits
a_placing_is_written = refl

-- a quote in a key is escaped
a_quote_is_escaped : order_body (Place [] (codes "a\"b") 1)
    ≡ codes "{\"account\":\"a\\\"b\",\"amount\":1,\"lines\":[],\"op\":\"place\"}"
unfolding serde_json_on_literals digits
a_quote_is_escaped = refl

a_cancel_is_written : order_body CancelOrder ≡ codes "{\"op\":\"cancel_order\"}"
a_cancel_is_written = refl

a_placing_is_read : read_order_command place_text ≡ Some place
unfolding serde_json_on_literals digits is_utf8 chars lib.Utf8.encode
a_placing_is_read = refl

-- another spelling of the same object is nobody's
a_space_is_refused : read_order_command (codes "{\"op\": \"cancel_order\"}") ≡ None
unfolding serde_json_on_literals
a_space_is_refused = refl

-- so is a body of another service
a_receipt_is_no_order : read_order_command (stock_body (Receive 10)) ≡ None
unfolding serde_json_on_literals digits
a_receipt_is_no_order = refl

-- keys out of order
turned_keys_are_refused : read_stock_command (codes "{\"op\":\"receive\",\"n\":10}") ≡ None
unfolding serde_json_on_literals digits
turned_keys_are_refused = refl

-- 3 bolts, and 500 of ann's limit, by version 1
abbrev first_place : OrderCommand
first_place = Place (item (codes "bolt") 3 ∷ []) (codes "ann") 500

abbrev first_text : List ℕ
first_text = codes "{\"account\":\"ann\",\"amount\":500,\"n\":3,\"op\":\"place\",\"stock\":\"bolt\"}"

a_first_placing_is_written : first_order_body first_place ≡ first_text
unfolding serde_json_on_literals digits
a_first_placing_is_written = refl

a_first_placing_is_read : read_first_order_command first_text ≡ Some first_place
unfolding serde_json_on_literals digits is_utf8 chars lib.Utf8.encode
a_first_placing_is_read = refl

-- each version's placing is nobody's body in the other
lines_are_refused : read_first_order_command place_text ≡ None
unfolding serde_json_on_literals digits is_utf8 chars lib.Utf8.encode
lines_are_refused = refl

one_line_is_refused : read_order_command first_text ≡ None
unfolding serde_json_on_literals digits is_utf8 chars lib.Utf8.encode
one_line_is_refused = refl

-- a command has a seat and neither sender nor number
a_command_has_a_seat : columns_of stock_body (FromSeat 3 (Receive 10))
    ≡ record { seat = Some 3; sender = None; number = None; body = codes "{\"n\":10,\"op\":\"receive\"}" }
unfolding digits
a_command_has_a_seat = refl

-- and a message the reverse
a_message_has_a_sender : columns_of stock_body (FromEntity (stock_of (codes "bolt")) 2 Tentative)
    ≡ record { seat = None; sender = Some (codes "stock/bolt"); number = Some 2; body = codes "{\"op\":\"tentative\"}" }
a_message_has_a_sender = refl

-- a row with both is no input's
both_are_refused : read_input read_stock_command (record {
  seat = Some 3;
  sender = Some (codes "stock/bolt");
  number = Some 2;
  body = codes "{\"n\":10,\"op\":\"receive\"}";
}) ≡ None
both_are_refused = refl
