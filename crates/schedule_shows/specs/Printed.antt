-- What is printed of rows, marks, journals and frames.
use Rattle.std.specs.Prelude.{ℕ, List, [], ◌∷◌, ◌++◌, codes, decimal, Option, Some, None}
use Rattle.std.specs.List.{flat_map, enumerate_from}
use Rattle.text.specs.Escapes.{spelled}
use Rattle.base.specs.Entity.{Entity}
use Rattle.base.specs.declared.pair.Pair.{Pair}
use Rattle.envelope.specs.declared.message.Message.{Message}
use Rattle.envelope.specs.declared.message.Message.TheVariants.{Request, Tentative, Refused, Confirm, Cancel}
use Rattle.envelope.specs.declared.message.Letter.{Letter}
use Rattle.envelope.specs.declared.message.Envelope.TheVariants as envelope
use Rattle.envelope.specs.Written.{send_of}
use Rattle.stomp_frame.specs.Frames.{canonical}
use Rattle.trade.specs.declared.commands.OrderCommand.{OrderCommand}
use Rattle.trade.specs.declared.commands.OrderCommand.TheVariants.{Place, CancelOrder}
use Rattle.trade.specs.declared.items.Item.{Item}
use Rattle.trade.specs.declared.commands.StockCommand.{StockCommand}
use Rattle.trade.specs.declared.commands.StockCommand.TheVariants.{Receive}
use Rattle.trade.specs.declared.commands.AccountCommand.{AccountCommand}
use Rattle.trade.specs.declared.commands.AccountCommand.TheVariants.{SetLimit}
use Rattle.activities.specs.declared.input.Input.{Input}
use Rattle.activities.specs.declared.input.Input.TheVariants.{FromSeat, FromEntity}
use Rattle.activities.specs.declared.input.JournalRow.{JournalRow}
use Rattle.trade.specs.Accounts.{AccountState}
use Rattle.trade.specs.Orders.{Partner, OrderState}
use Rattle.trade.specs.Stocks.{StockState}
use Rattle.trade.specs.Words.{status_word}
use Rattle.activities.specs.Words.{phase_word}
use Rattle.schedule_text.specs.Outcomes.{told_number, shown_entity, shown_pair}
use Rattle.schedule_text.specs.Words.{escaped}

-- a partner of an order: whom it asked, for how much, and how far they are
abbrev pub shown_partner : Partner → List ℕ
shown_partner p = codes " " ++ shown_entity p.entity ++ told_number (codes " ") p.n ++ codes " " ++ phase_word p.phase

-- an order that was placed: how far it is, and its partners
abbrev pub shown_order : OrderState → List ℕ
shown_order order = codes " " ++ status_word order.status ++ flat_map shown_partner order.partners

-- a stock: how much is there, held or not, held, was shipped, and came in
abbrev pub shown_stock : StockState → List ℕ
shown_stock stock = told_number (codes " on_hand ") stock.on_hand ++ told_number (codes " held ") stock.held
    ++ told_number (codes " shipped ") stock.shipped ++ told_number (codes " received ") stock.received

-- an account: its limit, and how much of it is billed and held
abbrev pub shown_account : AccountState → List ℕ
shown_account account = told_number (codes " limit ") account.limit ++ told_number (codes " billed ") account.billed
    ++ told_number (codes " held ") account.held

-- what a table has, in words of its own, or that it has nothing
abbrev pub shown_or_none : {S : Type 0} → (S → List ℕ) → Option S → List ℕ
shown_or_none shown None = codes " none"
shown_or_none shown (Some state) = shown state

-- the line of `show`: an entity, and its row where there is one
abbrev pub show_line : {S : Type 0} → (S → List ℕ) → Entity → Option S → List ℕ
show_line shown e row = shown_entity e ++ shown_or_none shown row ++ 10 ∷ []

-- the line of `pair`: how many letters were sent, how many of them are settled, and how many were handled
abbrev pub pair_line : Pair → ℕ → ℕ → ℕ → List ℕ
pair_line pair sent settled handled = codes "pair " ++ shown_pair pair ++ told_number (codes " sent ") sent
    ++ told_number (codes " settled ") settled ++ told_number (codes " handled ") handled ++ 10 ∷ []

-- so much of a stock
abbrev pub shown_item : Item → List ℕ
shown_item i = codes " " ++ escaped i.stock ++ told_number (codes " ") i.quantity

-- an order's command as the journal shows it
abbrev pub shown_order_command : OrderCommand → List ℕ
shown_order_command (Place items account amount) =
    codes "place" ++ flat_map shown_item items ++ codes " " ++ escaped account
    ++ told_number (codes " ") amount
shown_order_command CancelOrder = codes "cancel_order"

-- a stock's command as the journal shows it
abbrev pub shown_stock_command : StockCommand → List ℕ
shown_stock_command (Receive n) = told_number (codes "receive ") n

-- an account's command as the journal shows it
abbrev pub shown_account_command : AccountCommand → List ℕ
shown_account_command (SetLimit n) = told_number (codes "set_limit ") n

-- a message as the journal shows it
abbrev pub shown_message : Message → List ℕ
shown_message (Request n) = told_number (codes "request ") n
shown_message Tentative = codes "tentative"
shown_message Refused = codes "refused"
shown_message Confirm = codes "confirm"
shown_message Cancel = codes "cancel"

-- a command with its seat, or a message with its sender and number
abbrev pub shown_input : {C : Type 0} → (C → List ℕ) → Input C → List ℕ
shown_input shown (FromSeat seat command) = told_number (codes "seat ") seat ++ codes " " ++ shown command
shown_input shown (FromEntity sender number message) =
    codes "from " ++ shown_entity sender ++ told_number (codes " ") number ++ codes " "
    ++ shown_message message

-- the line of a journal's row at a position
abbrev pub journal_line : {C : Type 0} → (C → List ℕ) → ℕ → JournalRow C → List ℕ
journal_line shown pos row =
    decimal pos ++ codes " " ++ shown_entity row.entity ++ codes " " ++ shown_input shown row.input ++ 10 ∷ []

-- the lines of `journal`: of its rows, whose positions are 1, 2, ..
abbrev pub journal_lines : {C : Type 0} → (C → List ℕ) → List (JournalRow C) → List ℕ
journal_lines shown rows = flat_map (λ at. journal_line shown at.0 at.1) (enumerate_from 1 rows)

-- the line of a letter that is to be sent: the canonical text of its SEND, with escapes
abbrev pub frame_line : Letter → List ℕ
frame_line letter = flat_map spelled (canonical (send_of (envelope.Letter letter))) ++ 10 ∷ []

-- the lines of `frames`
abbrev pub frame_lines : List Letter → List ℕ
frame_lines letters = flat_map frame_line letters
