-- Three services of a world, as their stores show them.
use Rattle.keep.specs.Failing.{through}
use Rattle.keep.specs.Seen.{Seen}
use Rattle.laws_stores.specs.Sight.{Sight, OrderTables, StockTables, AccountTables, AreClean, AreMatching}
use Rattle.schedule_runner.specs.declared.world.World.{World}

-- the stores of a world, each of which may fail where it is told to
abbrev pub sight : {KO KS KA : Type 0} → (KO → Seen OrderTables) → (KS → Seen StockTables) → (KA → Seen AccountTables)
    → World KO KS KA
    → Sight
sight orders stocks accounts world = record {
  purchasing = through orders world.purchasing.endpoint;
  warehouse = through stocks world.warehouse.endpoint;
  billing = through accounts world.billing.endpoint;
}

module _ {KO KS KA : Type 0} (orders : KO → Seen OrderTables) (stocks : KS → Seen StockTables)
    (accounts : KA → Seen AccountTables)
    (old new : World KO KS KA) where
  -- where no file is in doubt now, none was before
  abbrev pub StaysClean : Type 0
  StaysClean = AreClean (sight orders stocks accounts new) → AreClean (sight orders stocks accounts old)

  -- where no file is in doubt now and all matched, all match
  abbrev pub StaysMatching : Type 0
  StaysMatching = AreClean (sight orders stocks accounts new) → AreMatching (sight orders stocks accounts old)
      → AreMatching (sight orders stocks accounts new)
