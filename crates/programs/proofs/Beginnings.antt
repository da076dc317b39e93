-- What the clauses of the world's steps say of a run in a world that was just opened.
use Rattle.std.proofs.Common.{ℕ, List, Option, Result, Ok, refl}
use Rattle.std.proofs.Math.Logic.{∥∥₁_map}
use Rattle.keep.specs.Seen.{Seen}
use Rattle.schedule_text.specs.declared.event.Event.{Event}
use Rattle.schedule_text.specs.declared.outcome.Outcome.{Outcome}
use Rattle.laws_stores.specs.Sight.{AllTables, Sight, OrderTables, StockTables, AccountTables}
use Rattle.schedule_runner.specs.Good.{StaysGood, Agrees}
use Rattle.schedule_runner.specs.Passing.{Passed}
use Rattle.schedule_runner.specs.Paths.{IsPath, Makes}
use Rattle.schedule_runner.specs.Sight.{StaysClean, StaysMatching}
use Rattle.schedule_runner.specs.Told.{Told}
use Rattle.schedule_runner.specs.declared.world.World.{World}
use Rattle.schedule_runner.proofs.Righting.{opened_good}
use Rattle.schedule_io.specs.Opened.{AreNew, AreOpened, AreLeftBy}
use Rattle.schedule_io.specs.Ends.{AreRun, IsRunOf}
use Rattle.schedule_io.specs.declared.fault.RunFault.{RunFault}
use Rattle.schedule_io.specs.declared.fault.StoresFault.{StoresFault}
use Rattle.schedule_io.proofs.Endings.{are_run_as}
use Rattle.programs.specs.Runs.{IsBeginning, HasRun, HasLeft}

-- a stop of stores that were opened leaves what it may leave of them
pub opened_so : (s : Sight) → AreNew s → AreOpened (AreLeftBy s) s
opened_so s new = record { new = new; found = λ clean t may. (clean, may) }

module _ {KO KS KA : Type 0} (orders : KO → Seen OrderTables) (stocks : KS → Seen StockTables)
    (accounts : KA → Seen AccountTables) (Found : AllTables → Type 0) where
  -- a run in a world that was just opened
  pub has_run : (events : List Event) (outcomes : List Outcome) (first last : World KO KS KA)
      → IsBeginning orders stocks accounts Found first
      → StaysClean orders stocks accounts first last → StaysMatching orders stocks accounts first last
      → StaysGood orders stocks accounts first last
      → Agrees orders stocks accounts first last
      → IsPath (Makes (Passed orders stocks accounts)) events outcomes first last
      → Told orders stocks accounts events outcomes first last
      → HasRun orders stocks accounts Found events outcomes
  has_run events outcomes first last began clean stays better agrees path told = record {
    first = first;
    last = last;
    began = began;
    passed = path;
    clean = clean;
    ended = λ start now.
        let good = opened_good orders stocks accounts first began.purchasing.0 began.purchasing.1 began.warehouse.0
        began.warehouse.1 began.billing.0 began.billing.1 began.mail start.good in
        record {
          began = good;
          good = better now start.matching good;
          matching = stays now start.matching;
          agree = agrees now start.matching good;
          told = λ t may. ∥∥₁_map (told now start.matching t may) (λ led. (led.before, led.was, led.leads));
        };
  }

  -- and it left its last world
  pub has_left : (events : List Event) (outcomes : List Outcome) (first last : World KO KS KA)
      → IsBeginning orders stocks accounts Found first
      → StaysClean orders stocks accounts first last → StaysMatching orders stocks accounts first last
      → StaysGood orders stocks accounts first last
      → Agrees orders stocks accounts first last
      → IsPath (Makes (Passed orders stocks accounts)) events outcomes first last
      → Told orders stocks accounts events outcomes first last
      → HasLeft orders stocks accounts Found last events outcomes
  unfolding has_run
  has_left events outcomes first last began clean stays better agrees path told =
      (has_run events outcomes first last began clean stays better agrees path told, refl)

-- what is known of the tables that are found may be said otherwise
module _ {KO KS KA : Type 0} (orders : KO → Seen OrderTables) (stocks : KS → Seen StockTables)
    (accounts : KA → Seen AccountTables) (Found More : AllTables → Type 0) (leads : (t : AllTables) → Found t → More t)
  where
    begins_as : (world : World KO KS KA) → IsBeginning orders stocks accounts Found world
        → IsBeginning orders stocks accounts More world
    begins_as world began = record {
      stores = record { new = began.stores.new; found = λ clean t may. leads t (began.stores.found clean t may) };
      purchasing = began.purchasing;
      warehouse = began.warehouse;
      billing = began.billing;
      mail = began.mail;
    }

    pub run_as : (events : List Event) (outcomes : List Outcome) → HasRun orders stocks accounts Found events outcomes
        → HasRun orders stocks accounts More events outcomes
    run_as events outcomes run = record {
      first = run.first;
      last = run.last;
      began = begins_as run.first run.began;
      passed = run.passed;
      clean = run.clean;
      ended = run.ended;
    }

module _ {KO KS KA : Type 0} (orders : KO → Seen OrderTables) (stocks : KS → Seen StockTables)
    (accounts : KA → Seen AccountTables) (Found : AllTables → Type 0) where
  -- a world over stores that were opened begins with what is found in them
  pub begins_found : (s : Sight) (world : World KO KS KA) → AreOpened Found s
      → IsBeginning orders stocks accounts (AreLeftBy s) world
      → IsBeginning orders stocks accounts Found world
  begins_found s world opened =
      begins_as orders stocks accounts (AreLeftBy s) Found (λ t left. opened.found left.0 t left.1) world

  pub run_found : (s : Sight) → AreOpened Found s → (events : List Event) (outcomes : List Outcome)
      → HasRun orders stocks accounts (AreLeftBy s) events outcomes
      → HasRun orders stocks accounts Found events outcomes
  run_found s opened =
      run_as orders stocks accounts (AreLeftBy s) Found (λ t left. opened.found left.0 t left.1)

  -- and of the world that it left
  pub left_found : (s : Sight) → AreOpened Found s → (left : World KO KS KA) → (events : List Event)
      (outcomes : List Outcome)
      → HasLeft orders stocks accounts (AreLeftBy s) left events outcomes
      → HasLeft orders stocks accounts Found left events outcomes
  unfolding run_found run_as
  left_found s opened left events outcomes run = (run_found s opened events outcomes run.0, run.1)

  -- a run is one whatever world it has left
  pub ran : (left : World KO KS KA) (Fails : StoresFault → Type 0) (events : List Event) (out out' : Option (List ℕ))
      (r : Result Unit RunFault)
      → AreRun (HasLeft orders stocks accounts Found left) Fails events out out' r
      → AreRun (HasRun orders stocks accounts Found) Fails events out out' r
  ran left Fails = are_run_as (HasLeft orders stocks accounts Found left) (HasRun orders stocks accounts Found) Fails
      Fails (λ events outcomes run. run.0) (λ fault fails. fails)

  pub ran_whole : (left : World KO KS KA) (Fails : StoresFault → Type 0) (text : List ℕ) (out out' : Option (List ℕ))
      → IsRunOf (HasLeft orders stocks accounts Found left) Fails text out out' (Ok tt)
      → IsRunOf (HasRun orders stocks accounts Found) Fails text out out' (Ok tt)
  ran_whole left Fails text out out' run =
      (run.0, record { events = run.1.events; read = run.1.read; ran = run.1.ran.0 }, run.2)
