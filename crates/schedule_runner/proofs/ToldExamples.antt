-- Examples: what the outcomes of a schedule tell of the commands in the journals.
use Rattle.std.proofs.Common.{◌≡◌, ◌∙◌, ℕ, List, [], ◌∷◌, length, Some, None, refl, ap, arith, inl, inr}
use Rattle.std.specs.Prelude.{codes}
use Rattle.envelope.specs.declared.message.Message.TheVariants.{Tentative}
use Rattle.trade.specs.declared.commands.OrderCommand.{OrderCommand}
use Rattle.trade.specs.declared.commands.OrderCommand.TheVariants.{Place}
use Rattle.trade.specs.declared.commands.StockCommand.{StockCommand}
use Rattle.trade.specs.declared.commands.StockCommand.TheVariants.{Receive}
use Rattle.trade.specs.declared.commands.AccountCommand.{AccountCommand}
use Rattle.trade.specs.declared.commands.AccountCommand.TheVariants.{SetLimit}
use Rattle.activities.specs.declared.input.Input.TheVariants.{FromEntity}
use Rattle.activities.specs.declared.input.JournalRow.{JournalRow}
use Rattle.trade.specs.Items.{item}
use Rattle.endpoint.proofs.Examples.{o1, bolts, acme}
use Rattle.keep.specs.Tables.{empty}
use Rattle.laws_stores.specs.Sight.{AllTables, all_empty}
use Rattle.schedule_text.specs.declared.event.Event.TheVariants.{Order, Stock, Account, StopBroker}
use Rattle.schedule_text.specs.declared.event.SeatCommand.{SeatCommand}
use Rattle.schedule_text.specs.declared.outcome.Outcome.TheVariants.{Committed, Refused, Stopped, Opened}
use Rattle.schedule_runner.specs.Told.{command_at, commands_from, asks_orders, asks_stocks, asks_accounts, TellsCommand}
use Rattle.schedule_runner.specs.Told.{AreTold}
use Rattle.schedule_runner.specs.Told.{RecordsTold}
use Rattle.schedule_runner.specs.Told.{AllTold}
use Rattle.laws_stores.proofs.Placed.{placing}

-- seat 0 places an order, books stock and sets a limit
abbrev placed : SeatCommand OrderCommand
placed = record { seat = 0; entity = o1; command = Place (item (codes "bolts") 3 ∷ []) (codes "acme") 500 }

abbrev received : SeatCommand StockCommand
received = record { seat = 0; entity = bolts; command = Receive 10 }

abbrev limited : SeatCommand AccountCommand
limited = record { seat = 0; entity = acme; command = SetLimit 500 }

-- a letter of the stock to the order
abbrev answer : JournalRow OrderCommand
answer = record { entity = o1; input = FromEntity bolts 1 Tentative }

-- ---- the commands of a journal

-- the position of the first command, where there is one
abbrev position : List (ℕ × SeatCommand OrderCommand) → ℕ
position [] = 0
position (told ∷ more) = told.0

-- a command has its row's position, and a letter is none; the rows are counted all the same
commands_have_positions : (command_at 3 placing.entity placing.input ≡ (3, placed) ∷ [])
    × (command_at 3 answer.entity answer.input ≡ [])
    × (commands_from 1 (placing ∷ answer ∷ placing ∷ []) ≡ (1, placed) ∷ (3, placed) ∷ [])
    × (commands_from {C = OrderCommand} 1 [] ≡ [])
    × (command_at 3 placing.entity placing.input ≡ (2, placed) ∷ [] → ⊥)
    × (commands_from 1 (answer ∷ placing ∷ []) ≡ (1, placed) ∷ [] → ⊥)
commands_have_positions = (
  refl,
  refl,
  refl,
  refl,
  λ h. let three : 3 ≡ 2 = ap position h in omega (arith, three),
  λ h. let two : 2 ≡ 1 = ap position h in omega (arith, two),
)

-- ---- what events ask

-- each service is asked its own commands
commands_are_asked : (asks_orders (Order placed) ≡ Some placed) × (asks_stocks (Stock received) ≡ Some received)
    × (asks_accounts (Account limited) ≡ Some limited) × (asks_orders (Stock received) ≡ None)
    × (asks_stocks StopBroker ≡ None)
    × (asks_orders (Order placed) ≡ None → ⊥) × (asks_stocks (Stock received) ≡ None → ⊥)
    × (asks_accounts (Account limited) ≡ None → ⊥)
    × (asks_accounts (Order placed) ≡ Some limited → ⊥)
commands_are_asked =
    (refl, refl, refl, refl, refl, λ h. absurd (cc), λ h. absurd (cc), λ h. absurd (cc), λ h. absurd (cc))

-- ---- what is told

-- a committed command stands at its position; one that was refused for 63 may stand, and for another fault it doesn't
commands_are_told : TellsCommand (Some placed) (Committed 1) ((1, placed) ∷ [])
    × TellsCommand (Some placed) (Refused 63) []
    × TellsCommand (Some placed) (Refused 63) ((4, placed) ∷ []) × TellsCommand (Some placed) (Refused 64) []
    × TellsCommand {C = OrderCommand} None Stopped []
    × (TellsCommand (Some placed) (Committed 1) [] → ⊥)
    × (TellsCommand (Some placed) (Committed 1) ((2, placed) ∷ []) → ⊥)
    × (TellsCommand (Some placed) (Refused 64) ((4, placed) ∷ []) → ⊥)
    × (TellsCommand None Stopped ((1, placed) ∷ []) → ⊥)
commands_are_told = (
  refl,
  inl refl,
  inr (refl, 4, refl),
  inl refl,
  refl,
  λ h. absurd (cc),
  λ h. let two : 2 ≡ 1 = ap position h in omega (arith, two),
  no_memory,
  λ h. absurd (cc),
)
  where
    no_memory : TellsCommand (Some placed) (Refused 64) ((4, placed) ∷ []) → ⊥
    no_memory (inl none) = absurd (cc)
    no_memory (inr failed) = let number = failed.0 in omega (arith, number)

-- the commands of all events in order, one outcome for each
commands_are_told_in_order : AreTold asks_orders (Order placed ∷ StopBroker ∷ []) (Committed 1 ∷ Stopped ∷ [])
    ((1, placed) ∷ [])
    × AreTold asks_orders [] [] [] × AreTold asks_orders (StopBroker ∷ Order placed ∷ []) (Stopped ∷ Refused 64 ∷ []) []
    × (AreTold asks_orders (Order placed ∷ []) [] [] → ⊥) × (AreTold asks_orders [] (Stopped ∷ []) [] → ⊥)
    × (AreTold asks_orders (Order placed ∷ []) (Committed 1 ∷ []) [] → ⊥)
commands_are_told_in_order = (
  ((1, placed) ∷ [], [], refl, ([], [], refl, refl, refl), refl),
  refl,
  ([], [], refl, ([], [], inl refl, refl, refl), refl),
  λ h. h,
  λ h. h,
  lost,
)
  where
    lost : AreTold asks_orders (Order placed ∷ []) (Committed 1 ∷ []) [] → ⊥
    lost (first, rest, tells, told, all) = absurd (cc)

-- ---- journals

-- behind what it was a journal has what was committed, and letters; it loses no row, and no command stands untold
journals_are_told : RecordsTold asks_orders (Order placed ∷ []) (Committed 1 ∷ []) [] (placing ∷ answer ∷ [])
    × RecordsTold asks_orders [] [] (placing ∷ []) (placing ∷ answer ∷ [])
    × (RecordsTold asks_orders [] [] (placing ∷ []) [] → ⊥) × (RecordsTold asks_orders [] [] [] (placing ∷ []) → ⊥)
journals_are_told = (
  (placing ∷ answer ∷ [], refl, ((1, placed) ∷ [], [], refl, refl, refl)),
  (answer ∷ [], refl, refl),
  λ h. let shorter = h.1 in absurd (cc),
  untold,
)
  where
    untold : RecordsTold asks_orders [] [] [] (placing ∷ []) → ⊥
    untold (more, same, told) =
        let first : commands_from 1 (placing ∷ []) ≡ commands_from 1 more = ap (commands_from 1) same in
        let one : 1 ≡ 0 = ap length (first ∙ told) in omega (arith, one)

-- the tables of purchasing with this journal, and of two services in which nothing was done
abbrev with_orders : List (JournalRow OrderCommand) → AllTables
with_orders journal = record all_empty { purchasing = record empty { journal = journal } }

-- so of each service
services_are_told : AllTold (Order placed ∷ []) (Committed 1 ∷ []) all_empty (with_orders (placing ∷ []))
    × AllTold (StopBroker ∷ []) (Opened ∷ []) all_empty all_empty
    × (AllTold [] [] (with_orders (placing ∷ [])) all_empty → ⊥)
services_are_told = (
  record {
    purchasing = (placing ∷ [], refl, ((1, placed) ∷ [], [], refl, refl, refl));
    warehouse = ([], refl, ([], [], refl, refl, refl));
    billing = ([], refl, ([], [], refl, refl, refl));
  },
  record {
    purchasing = ([], refl, ([], [], refl, refl, refl));
    warehouse = ([], refl, ([], [], refl, refl, refl));
    billing = ([], refl, ([], [], refl, refl, refl));
  },
  λ h. let shorter = h.purchasing.1 in absurd (cc),
)
