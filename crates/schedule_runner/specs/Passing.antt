-- What a part of a step does to the world and to its tables.
use Rattle.std.specs.Prelude.{List, [], ◌∷◌}
use Rattle.keep.specs.Seen.{Seen}
use Rattle.schedule_text.specs.declared.event.Event.{Event}
use Rattle.schedule_text.specs.declared.outcome.Outcome.{Outcome}
use Rattle.schedule_runner.specs.declared.world.World.{World}
use Rattle.schedule_runner.specs.Deeds.{Moment, GoesBy, Step}
use Rattle.schedule_runner.specs.Paths.{Leads}
use Rattle.laws_stores.specs.Sight.{OrderTables, StockTables, AccountTables}
use Rattle.schedule_runner.specs.Sight.{StaysClean, StaysMatching}
use Rattle.schedule_runner.specs.Good.{StaysGood, Agrees}
use Rattle.schedule_runner.specs.Steps.{WorldStep}
use Rattle.schedule_runner.specs.Told.{Told}

-- the world goes so, and the tables so
abbrev pub Both : {KO KS KA : Type 0} → ((a b : World KO KS KA) → Type 0) → ((a b : Moment KO KS KA) → Type 0)
    → (a b : Moment KO KS KA) → Type 0
Both Whole Tables a b = Whole a.world b.world × Tables a b

module _ {KO KS KA : Type 0} (orders : KO → Seen OrderTables) (stocks : KS → Seen StockTables)
    (accounts : KA → Seen AccountTables) where
  -- from the old world to the new one: it goes so, and with its tables so
  pub record Passes (Whole : (a b : World KO KS KA) → Type 0) (Leading : (a b : Moment KO KS KA) → Type 0)
      (old new : World KO KS KA)
      : Type 0 where
    pub clean : StaysClean orders stocks accounts old new
    pub matching : StaysMatching orders stocks accounts old new
    pub good : StaysGood orders stocks accounts old new
    pub did : Whole old new
    pub goes : GoesBy orders stocks accounts Leading old new

  -- One event: what it does and tells; and where no file is in doubt behind it and the tables of all services matched,
  -- they match behind it, a world that was good is good, its services agree, and what the event told of a command
  -- stands in a journal.
  abbrev pub Passed : Event → Outcome → (old new : World KO KS KA) → Type 0
  Passed e o old new = Passes (WorldStep orders stocks accounts e o) (Step orders stocks accounts e o) old new
      × Agrees orders stocks accounts old new × Told orders stocks accounts (e ∷ []) (o ∷ []) old new

  -- all these events, whatever their outcomes were
  abbrev pub PassesAll : List Event → (old new : World KO KS KA) → Type 0
  PassesAll events old new = Passes (Leads Passed events) (Leads (Step orders stocks accounts) events) old new
