-- What the outcomes of a schedule tell of the commands in the journals.
use Rattle.std.specs.Prelude.{◌≡◌, ◌⊎◌, ℕ, suc, List, [], ◌∷◌, ◌++◌, length, Option, Some, None}
use Rattle.base.specs.Entity.{Entity}
use Rattle.trade.specs.declared.commands.OrderCommand.{OrderCommand}
use Rattle.trade.specs.declared.commands.StockCommand.{StockCommand}
use Rattle.trade.specs.declared.commands.AccountCommand.{AccountCommand}
use Rattle.activities.specs.declared.input.Input.{Input}
use Rattle.activities.specs.declared.input.Input.TheVariants.{FromSeat, FromEntity}
use Rattle.activities.specs.declared.input.JournalRow.{JournalRow}
use Rattle.schedule_text.specs.declared.event.Event.{Event}
use Rattle.schedule_text.specs.declared.event.Event.TheVariants.{Order, Stock, Account}
use Rattle.schedule_text.specs.declared.event.SeatCommand.{SeatCommand}
use Rattle.schedule_text.specs.declared.outcome.Outcome.{Outcome}
use Rattle.schedule_text.specs.declared.outcome.Outcome.TheVariants.{Committed, Refused}
use Rattle.schedule_runner.specs.Deeds.{GoesBy}
use Rattle.laws_stores.specs.Sight.{AllTables, OrderTables, StockTables, AccountTables}
use Rattle.schedule_runner.specs.declared.world.World.{World}
use Rattle.keep.specs.Seen.{Seen}

-- a row's command with its position; none where a letter was taken in
abbrev pub command_at : {C : Type 0} → ℕ → Entity → Input C → List (ℕ × SeatCommand C)
command_at pos e (FromSeat seat command) = (pos, record { seat = seat; entity = e; command = command }) ∷ []
command_at pos e (FromEntity sender number message) = []

-- the commands among rows, each with its position; the first row stands at this one
abbrev pub commands_from : {C : Type 0} → ℕ → List (JournalRow C) → List (ℕ × SeatCommand C)
commands_from pos [] = []
commands_from pos (row ∷ rows) = command_at pos row.entity row.input ++ commands_from (suc pos) rows

-- what an event asks of purchasing, of warehouse and of billing
abbrev pub asks_orders : Event → Option (SeatCommand OrderCommand)
asks_orders (Order asked) = Some asked
asks_orders _ = None

abbrev pub asks_stocks : Event → Option (SeatCommand StockCommand)
asks_stocks (Stock asked) = Some asked
asks_stocks _ = None

abbrev pub asks_accounts : Event → Option (SeatCommand AccountCommand)
asks_accounts (Account asked) = Some asked
asks_accounts _ = None

-- A command that was answered committed stands at that row; one that was refused for 63, since the store failed, may
-- stand or not, and once at most. No other stands.
abbrev pub TellsCommand : {C : Type 0} → Option (SeatCommand C) → Outcome → List (ℕ × SeatCommand C) → Type 0
TellsCommand (Some asked) (Committed pos) told = told ≡ (pos, asked) ∷ []
TellsCommand (Some asked) (Refused n) told = (told ≡ []) ⊎ ((n ≡ 63) × (pos : ℕ) × (told ≡ (pos, asked) ∷ []))
TellsCommand _ _ told = told ≡ []

-- these are, in order, the commands of these events, as their outcomes tell them
abbrev pub AreTold : {C : Type 0} → (Event → Option (SeatCommand C)) → List Event → List Outcome
    → List (ℕ × SeatCommand C) → Type 0
AreTold asks [] [] told = told ≡ []
AreTold {C} asks (e ∷ es) (o ∷ os) told = (first rest : List (ℕ × SeatCommand C))
    × TellsCommand (asks e) o first × AreTold asks es os rest × (told ≡ first ++ rest)
AreTold asks [] (_ ∷ _) told = ⊥
AreTold asks (_ ∷ _) [] told = ⊥

-- the journal begins with what it was, and the commands behind that are those
abbrev pub RecordsTold : {C : Type 0} → (Event → Option (SeatCommand C)) → List Event → List Outcome
    → (old new : List (JournalRow C))
    → Type 0
RecordsTold {C} asks events outcomes old new = (more : List (JournalRow C)) × (new ≡ old ++ more)
    × AreTold asks events outcomes (commands_from (suc (length old)) more)

-- of each service, from tables to tables
pub record AllTold (events : List Event) (outcomes : List Outcome) (old new : AllTables) : Type 0 where
  pub purchasing : RecordsTold asks_orders events outcomes old.purchasing.journal new.purchasing.journal
  pub warehouse : RecordsTold asks_stocks events outcomes old.warehouse.journal new.warehouse.journal
  pub billing : RecordsTold asks_accounts events outcomes old.billing.journal new.billing.journal

module _ {KO KS KA : Type 0} (orders : KO → Seen OrderTables) (stocks : KS → Seen StockTables)
    (accounts : KA → Seen AccountTables) where
  -- all tables that a stop may leave now come so of some that it might leave before
  abbrev pub Told : List Event → List Outcome → (old new : World KO KS KA) → Type 0
  Told events outcomes old new =
      GoesBy orders stocks accounts (λ a b. AllTold events outcomes a.tables b.tables) old new
