-- Examples: the lines of rows, marks, journals and frames.
use Rattle.std.proofs.Common.{◌≡◌, [], ◌∷◌, ◌++◌, refl}
use Rattle.std.specs.Prelude.{codes, Some, None}
use Rattle.std.specs.Fmt.{digits}
use Rattle.base.specs.Entity.{Entity, order_of, stock_of, account_of}
use Rattle.base.specs.declared.pair.Pair.{Pair}
use Rattle.stomp_frame.specs.Frames.{canonical, line_of, escape}
use Rattle.envelope.specs.declared.message.Message.TheVariants as message
use Rattle.envelope.specs.declared.message.Letter.{Letter}
use Rattle.trade.specs.Items.{item}
use Rattle.trade.specs.Orders.{OrderState}
use Rattle.trade.specs.Stocks.{StockState}
use Rattle.trade.specs.Accounts.{AccountState}
use Rattle.trade.specs.declared.commands.OrderCommand.{OrderCommand}
use Rattle.trade.specs.declared.commands.OrderCommand.TheVariants.{Place, CancelOrder}
use Rattle.trade.specs.declared.commands.StockCommand.TheVariants.{Receive}
use Rattle.trade.specs.declared.commands.AccountCommand.TheVariants.{SetLimit}
use Rattle.activities.specs.declared.input.Input.TheVariants.{FromSeat, FromEntity}
use Rattle.activities.specs.declared.input.JournalRow.{JournalRow}
use Rattle.activities.specs.declared.phase.Phase.TheVariants as phase
use Rattle.trade.specs.declared.status.Status.TheVariants as status
use Rattle.schedule_shows.specs.Printed.{shown_order, shown_stock, shown_account, shown_or_none, show_line, pair_line}
use Rattle.schedule_shows.specs.Printed.{shown_order_command}
use Rattle.schedule_shows.specs.Printed.{shown_stock_command, shown_account_command, shown_message, journal_line}
use Rattle.schedule_shows.specs.Printed.{journal_lines}
use Rattle.schedule_shows.specs.Printed.{frame_line, frame_lines}

abbrev o1 : Entity
o1 = order_of (codes "o1")

abbrev bolts : Entity
bolts = stock_of (codes "bolts")

abbrev acme : Entity
acme = account_of (codes "acme")

-- ---- rows

abbrev placed : OrderState
placed = record {
  status = status.Open;
  partners = record { entity = bolts; n = 3; phase = phase.Requested } ∷ record
      { entity = acme; n = 500; phase = phase.Refused } ∷ [];
}

abbrev stock : StockState
stock = record { on_hand = 7; held = 3; shipped = 2; received = 9; lines = [] }

abbrev account : AccountState
account = record { limit = 500; billed = 40; held = 12; lines = [] }

-- an order that was placed, and one that wasn't; a space in a key is \s
orders_are_shown : (show_line (shown_or_none shown_order) o1 (Some (Some placed))
    ≡ codes "order/o1 open stock/bolts 3 requested account/acme 500 refused\n")
    × (show_line (shown_or_none shown_order) (order_of (codes "a b")) None ≡ codes "order/a\\sb none\n")
unfolding digits
orders_are_shown = (refl, refl)

-- a stock and an account, and such without a row
stocks_and_accounts_are_shown : (show_line shown_stock bolts (Some stock)
    ≡ codes "stock/bolts on_hand 7 held 3 shipped 2 received 9\n")
    × (show_line shown_stock bolts None ≡ codes "stock/bolts none\n")
    × (show_line shown_account acme (Some account) ≡ codes "account/acme limit 500 billed 40 held 12\n")
    × (show_line shown_account acme None ≡ codes "account/acme none\n")
unfolding digits
stocks_and_accounts_are_shown = (refl, refl, refl, refl)

abbrev pair : Pair
pair = record { from = o1; to = acme }

marks_are_shown : pair_line pair 12 10 11 ≡ codes "pair order/o1 account/acme sent 12 settled 10 handled 11\n"
unfolding digits
marks_are_shown = refl

-- ---- journals

-- seat 0 places `o1` for 3 bolts, and 500 from acme
abbrev placing : JournalRow OrderCommand
placing = record { entity = o1; input = FromSeat 0 (Place (item (codes "bolts") 3 ∷ []) (codes "acme") 500) }

-- a command with its seat, and a letter with its sender and number
rows_are_shown : (journal_line shown_order_command 2 (record { entity = o1; input = FromSeat 15 CancelOrder })
    ≡ codes "2 order/o1 seat 15 cancel_order\n")
    × (journal_line shown_order_command 10 (record { entity = o1; input = FromEntity bolts 1 message.Tentative })
    ≡ codes "10 order/o1 from stock/bolts 1 tentative\n")
    × (journal_line shown_stock_command 1 (record { entity = bolts; input = FromSeat 0 (Receive 10) })
    ≡ codes "1 stock/bolts seat 0 receive 10\n")
    × (journal_line shown_account_command 3 (record { entity = acme; input = FromSeat 1 (SetLimit 500) })
    ≡ codes "3 account/acme seat 1 set_limit 500\n")
    × (shown_order_command (Place (item (codes "a b") 3 ∷ []) (codes "acme") 500) ≡ codes "place a\\sb 3 acme 500")
unfolding digits
rows_are_shown = (refl, refl, refl, refl, refl)

messages_are_shown : (shown_message (message.Request 3) ≡ codes "request 3")
    × (shown_message message.Tentative ≡ codes "tentative")
    × (shown_message message.Refused ≡ codes "refused")
    × (shown_message message.Confirm ≡ codes "confirm") × (shown_message message.Cancel ≡ codes "cancel")
unfolding digits
messages_are_shown = (refl, refl, refl, refl, refl)

-- positions begin at 1
journals_are_numbered : (journal_lines shown_order_command (placing ∷ record
    { entity = o1; input = FromSeat 15 CancelOrder } ∷ [])
    ≡ codes "1 order/o1 seat 0 place bolts 3 acme 500\n2 order/o1 seat 15 cancel_order\n")
    × (journal_lines shown_order_command [] ≡ [])
unfolding digits
journals_are_numbered = (refl, refl)

-- ---- frames

abbrev request : Letter
request = record { pair = pair; number = 1; message = message.Request 500 }

-- a letter is shown as the SEND that carries it, on one line, and letters one after another
frames_are_shown : (frame_line request
    ≡ codes "SEND\\ncontent-length:24\\ndestination:/queue/billing\\nkind:message\\nfrom:order/o1\\nto:account/acme\\nnumber:1\\n\\n{\"n\":500,\"op\":\"request\"}\\x00\n")
    × (frame_lines (request ∷ request ∷ []) ≡ frame_line request ++ frame_line request) × (frame_lines [] ≡ [])
unfolding digits canonical line_of escape
frames_are_shown = (refl, refl, refl)
