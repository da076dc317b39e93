-- Examples: the lines of a schedule, their words and numbers, and the events that they are.
use Rattle.std.proofs.Common.{◌≡◌, ℕ, true, false, List, [], ◌∷◌, ◌++◌, refl}
use Rattle.std.specs.Prelude.{codes, Option, Some, None, Ok, Err}
use Rattle.std.specs.Str.{is_utf8, chars}
use Rattle.base.specs.Entity.{order_of, stock_of, account_of}
use Rattle.trade.specs.declared.commands.OrderCommand.{OrderCommand}
use Rattle.trade.specs.declared.commands.OrderCommand.TheVariants.{Place, CancelOrder}
use Rattle.trade.specs.declared.commands.StockCommand.TheVariants.{Receive}
use Rattle.trade.specs.declared.commands.AccountCommand.TheVariants.{SetLimit}
use Rattle.trade.specs.Items.{item}
use Rattle.schedule_text.specs.declared.event.Event.{Event}
use Rattle.schedule_text.specs.declared.event.Event.TheVariants.{Order, Stock, Account, Open, Cut, Fill, Resend, Carry}
use Rattle.schedule_text.specs.declared.event.Event.TheVariants.{Take, Drain}
use Rattle.schedule_text.specs.declared.event.Event.TheVariants.{Repeat, Fail, Reopen, Stop, StopBroker, Pump, Show}
use Rattle.schedule_text.specs.declared.event.Event.TheVariants.{Pair, Frames, Journal}
use Rattle.schedule_text.specs.declared.event.Event.TheVariants.{Agreement}
use Rattle.schedule_text.specs.declared.event.SeatCommand.{SeatCommand}
use Rattle.schedule_text.specs.declared.event.ConnectionName.{ConnectionName}
use Rattle.schedule_text.specs.declared.event.ConnectionNumber.TheVariants.{Zero, One}
use Rattle.stomp_wire.specs.declared.wire.Way.TheVariants.{Up, Down}
use Rattle.schedule_text.specs.declared.event.FailureLeaves.TheVariants.{Old, New}
use Rattle.schedule_text.specs.declared.event.ServiceName.TheVariants.{Purchasing, Warehouse, Billing}
use Rattle.schedule_text.specs.Events.{event_of, events_of}
use Rattle.schedule_text.specs.Schedules.{found_in, found_on, is_faulty, events_on}
use Rattle.schedule_text.specs.Lines.{lines_of, ended}
use Rattle.schedule_text.specs.Numbers.{seat_number, ordinal_number, rounds_number}
use Rattle.schedule_text.specs.Words.{unescaped, word_of, words_of, escaped}

-- the last line may lack its LF, and an empty line is one where LF ends it
lines_end_in_lf : (lines_of (codes "a\n\nbc\n") ≡ codes "a" ∷ [] ∷ codes "bc" ∷ [])
    × (lines_of (codes "a\n\nbc") ≡ codes "a" ∷ [] ∷ codes "bc" ∷ [])
    × (lines_of (codes "\n") ≡ [] ∷ []) × (lines_of [] ≡ [])
lines_end_in_lf = (refl, refl, refl, refl)

-- lines are written with LF behind each
lines_are_ended : (ended (codes "a" ∷ [] ∷ codes "bc" ∷ []) ≡ codes "a\n\nbc\n") × (ended [] ≡ [])
lines_are_ended = (refl, refl)

-- \\ is a backslash, \n is LF, \r is CR, \s is a space
escapes_are_four : (word_of (codes "a\\\\b\\nc\\rd\\se") ≡ Some (codes "a\\b\nc" ++ 13 ∷ codes "d e"))
    × (escaped (codes "a\\b\nc" ++ 13 ∷ codes "d e") ≡ codes "a\\\\b\\nc\\rd\\se")
escapes_are_four = (refl, refl)

-- a backslash behind a backslash begins no escape
escapes_are_read_in_turn : (unescaped (codes "\\\\n") ≡ Some (codes "\\n"))
    × (unescaped (codes "\\\\\\n") ≡ Some (codes "\\\n"))
    × (unescaped (codes "\\\\\\") ≡ None) × (unescaped [] ≡ Some [])
escapes_are_read_in_turn = (refl, refl, refl, refl)

-- there is no escape \t, a backslash doesn't end a word, and no word is empty
wrong_words_are_none : (word_of (codes "a\\tb") ≡ None) × (word_of (codes "a\\") ≡ None) × (word_of [] ≡ None)
wrong_words_are_none = (refl, refl, refl)

-- one space stands between words, and none before or behind them
single_spaces_separate : (words_of (codes "show order/a\\sb") ≡ Some (codes "show" ∷ codes "order/a b" ∷ []))
    × (words_of (codes "a  b") ≡ None)
    × (words_of (codes " a") ≡ None) × (words_of (codes "a ") ≡ None)
single_spaces_separate = (refl, refl, refl, refl)

-- seats are 0 to 15
seats_are_sixteen : (seat_number 15 ≡ Some 15) × (seat_number 16 ≡ None)
seats_are_sixteen = (refl, refl)

-- places are counted from 1, and rounds are 1 to 100
places_and_rounds_begin_at_one : (ordinal_number 1 ≡ Some 1) × (ordinal_number 0 ≡ None)
    × (rounds_number 1 ≡ Some 1) × (rounds_number 100 ≡ Some 100) × (rounds_number 0 ≡ None)
    × (rounds_number 101 ≡ None)
places_and_rounds_begin_at_one = (refl, refl, refl, refl, refl, refl)

-- ---- events

-- what stands on a line of text
abbrev Is : List ℕ → Option (Option Event) → Type 0
Is line answer = found_in event_of line ≡ answer

-- a line of text has this event
abbrev Says : List ℕ → Event → Type 0
Says line event = Is line (Some (Some event))

-- a seat's command to the order of key o1
abbrev asks_order : ℕ → OrderCommand → SeatCommand OrderCommand
asks_order seat command = record { seat = seat; entity = order_of (codes "o1"); command = command }

-- connection 0 of purchasing, and connection 1 of billing
abbrev first : ConnectionName
first = record { service = Purchasing; number = Zero }

abbrev last : ConnectionName
last = record { service = Billing; number = One }

-- seat, key, stock, quantity, account, amount; seat, key; and seat, key, number
commands_are_read : Says (codes "place 0 o1 bolts 3 acme 500")
    (Order (asks_order 0 (Place (item (codes "bolts") 3 ∷ []) (codes "acme") 500)))
    × Says (codes "cancel 15 o1") (Order (asks_order 15 CancelOrder))
    × Says (codes "receive 1 bolts 10") (Stock (record {
      seat = 1;
      entity = stock_of (codes "bolts");
      command = Receive 10;
    }))
    × Says (codes "limit 2 acme 0") (Account (record {
      seat = 2;
      entity = account_of (codes "acme");
      command = SetLimit 0;
    }))
unfolding is_utf8 chars lib.Utf8.encode
commands_are_read = (refl, refl, refl, refl)

-- a stock and a quantity for each line, in their order; that there are one to eight the order sees to
lines_are_read : Says (codes "place 0 o1 nuts 4 bolts 3 acme 500")
    (Order (asks_order 0 (Place (item (codes "nuts") 4 ∷ item (codes "bolts") 3 ∷ []) (codes "acme") 500)))
    × Says (codes "place 0 o1 acme 500") (Order (asks_order 0 (Place [] (codes "acme") 500)))
    × (Is (codes "place 0 o1 bolts 3 nuts acme 500") None) × (Is (codes "place 0 o1 acme") None)
    × (Is (codes "place 0 o1") None)
unfolding is_utf8 chars lib.Utf8.encode
lines_are_read = (refl, refl, refl, refl, refl)

-- a service and the number of its connection, and what the event needs beside
connections_are_read : Says (codes "open purchasing 0") (Open first) × Says (codes "cut billing 1") (Cut last)
    × Says (codes "fill purchasing 0 64") (Fill first 64) × Says (codes "resend billing 1") (Resend last)
    × Says (codes "carry purchasing 0 up 0") (Carry first Up 0)
    × Says (codes "carry billing 1 down 1048576") (Carry last Down 1048576)
    × Says (codes "take purchasing 0") (Take first) × Says (codes "drain billing 1") (Drain last)
unfolding is_utf8 chars lib.Utf8.encode
connections_are_read = (refl, refl, refl, refl, refl, refl, refl, refl)

-- what is repeated, what fails and is stopped, and how many rounds are run
faults_are_read : Says (codes "repeat 2") (Repeat 2) × Says (codes "fail warehouse 1 old") (Fail Warehouse 1 Old)
    × Says (codes "fail billing 3 new") (Fail Billing 3 New) × Says (codes "reopen warehouse") (Reopen Warehouse)
    × Says (codes "stop billing") (Stop Billing) × Says (codes "stop broker") StopBroker
    × Says (codes "pump 100") (Pump 100)
unfolding is_utf8 chars lib.Utf8.encode
faults_are_read = (refl, refl, refl, refl, refl, refl, refl)

-- an entity of any kind is shown, and any pair; of a service the frames and the journal are; agreement is asked for
-- with no more
looks_are_read : Says (codes "show order/o1") (Show (order_of (codes "o1")))
    × Says (codes "show stock/bolts") (Show (stock_of (codes "bolts")))
    × Says (codes "pair order/o1 account/acme") (Pair (record {
      from = order_of (codes "o1");
      to = account_of (codes "acme");
    }))
    × Says (codes "frames purchasing") (Frames Purchasing) × Says (codes "journal warehouse") (Journal Warehouse)
    × Says (codes "agreement") Agreement × (Is (codes "agreement order/o1") None)
unfolding is_utf8 chars lib.Utf8.encode
looks_are_read = (refl, refl, refl, refl, refl, refl, refl)

-- an empty line and one that begins with # have nothing to run
quiet_lines_have_no_event : (Is [] (Some None)) × (Is (codes "# place 0") (Some None))
quiet_lines_have_no_event = (refl, refl)

-- a word too few or too many, seat 16, an empty key, another service, another word, a space before #
faulty_lines_are_none : (Is (codes "place 0 o1 bolts 3 acme") None) × (Is (codes "cancel 0 o1 x") None)
    × (Is (codes "cancel 16 o1") None)
    × (Is (codes "show order/") None)
    × (Is (codes "journal broker") None) × (Is (codes "stop") None) × (Is (codes " # a") None)
unfolding is_utf8 chars lib.Utf8.encode
faulty_lines_are_none = (refl, refl, refl, refl, refl, refl, refl)

-- a third connection, another way, place 0, other tables, no round and too many, a pair of one
wrong_arguments_are_none : (Is (codes "open purchasing 2") None) × (Is (codes "open purchasing 00") None)
    × (Is (codes "carry purchasing 0 out 1") None) × (Is (codes "repeat 0") None)
    × (Is (codes "fail warehouse 0 old") None) × (Is (codes "fail warehouse 1 both") None)
    × (Is (codes "pump 0") None) × (Is (codes "pump 101") None) × (Is (codes "pair order/o1") None)
unfolding is_utf8 chars lib.Utf8.encode
wrong_arguments_are_none = (refl, refl, refl, refl, refl, refl, refl, refl, refl)

-- a line that isn't UTF-8 is faulty, even where nothing is to run
lines_are_utf8 : (found_on event_of (codes "# " ++ 195 ∷ 169 ∷ []) ≡ Some None)
    × (found_on event_of (codes "# " ++ 255 ∷ []) ≡ None)
unfolding is_utf8 chars lib.Utf8.encode
lines_are_utf8 = (refl, refl)

-- lines that are quiet have no event, and aren't faulty
quiet_lines_are_passed : (events_on event_of (codes "# two events" ∷ codes "cancel 0 o1" ∷ [] ∷ codes
    "journal purchasing" ∷ [])
    ≡ Order (asks_order 0 CancelOrder) ∷ Journal Purchasing ∷ [])
    × (is_faulty event_of [] ≡ false) × (is_faulty event_of (codes "# a") ≡ false)
    × (is_faulty event_of (codes "journal") ≡ true)
unfolding is_utf8 chars lib.Utf8.encode
quiet_lines_are_passed = (refl, refl, refl, refl)

-- a schedule is its events in order
a_schedule_is_read : events_of (codes "# two events\ncancel 0 o1\n\njournal purchasing\n")
    ≡ Ok (Order (asks_order 0 CancelOrder) ∷ Journal Purchasing ∷ [])
unfolding is_utf8 chars lib.Utf8.encode
a_schedule_is_read = refl

-- the first faulty line is told by its number, which counts from 1, also over quiet lines
the_first_fault_is_told : (events_of (codes "cancel 0 o1\ncancel 0\njournal\ncancel 1 o1\n") ≡ Err 2)
    × (events_of (codes "journal") ≡ Err 1) × (events_of (codes "\n# a\ncancel 0 o1\njournal\n") ≡ Err 4)
unfolding is_utf8 chars lib.Utf8.encode
the_first_fault_is_told = (refl, refl, refl)
