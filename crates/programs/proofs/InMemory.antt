-- Runs over tables in memory begin with nothing, and no file of them is in doubt.
use Rattle.std.proofs.Common.{◌≡◌, List, refl, sym, ap, subst, ◌∙◌}
use Rattle.std.proofs.Math.Logic.{∥∥₁_map}
use Rattle.base.specs.declared.limits.TheConstants.{HELD_WINDOW}
use Rattle.endpoint.specs.Matches.{TablesMatchJournal}
use Rattle.endpoint.proofs.Opening.{empty-matches}
use Rattle.laws_stores.specs.Sight.{AllTables, MayLeave, all_empty, orders_service, stocks_service, accounts_service}
use Rattle.laws_stores.proofs.Beginning.{empty_good}
use Rattle.schedule_text.specs.declared.event.Event.{Event}
use Rattle.schedule_text.specs.declared.outcome.Outcome.{Outcome}
use Rattle.schedule_runner.specs.Sight.{sight}
use Rattle.schedule_runner.specs.Told.{AllTold}
use Rattle.schedule_io.specs.InMemory.{plain}
use Rattle.schedule_io.proofs.InMemory.{joined}
use Rattle.programs.specs.InMemory.{PlainWorld, plain_tables, EndsWellInMemory}
use Rattle.programs.specs.Runs.{IsGoodStart, HasRun}

-- a stop leaves the tables now
now_left : (world : PlainWorld) → MayLeave (sight plain plain plain world) (plain_tables world)
now_left world = record { purchasing = refl; warehouse = refl; billing = refl }

-- and no others
left_is : (world : PlainWorld) (t : AllTables) → MayLeave (sight plain plain plain world) t → t ≡ plain_tables world
left_is world t may = joined t (plain_tables world) may.purchasing may.warehouse may.billing

-- empty tables are a good start
empty_start : (world : PlainWorld) → plain_tables world ≡ all_empty → IsGoodStart (sight plain plain plain world)
empty_start world none = record {
  matching = (
    λ t left. subst (TablesMatchJournal orders_service) (sym (left ∙ ap (λ (a : AllTables). a.purchasing) none))
        (empty-matches HELD_WINDOW orders_service),
    λ t left. subst (TablesMatchJournal stocks_service) (sym (left ∙ ap (λ (a : AllTables). a.warehouse) none))
        (empty-matches HELD_WINDOW stocks_service),
    λ t left. subst (TablesMatchJournal accounts_service) (sym (left ∙ ap (λ (a : AllTables). a.billing) none))
        (empty-matches HELD_WINDOW accounts_service),
  );
  good = empty_good (sight plain plain plain world) (λ t may. left_is world t may ∙ none);
}

pub ends_well : (events : List Event) (outcomes : List Outcome)
    (run : HasRun plain plain plain (λ t. t ≡ all_empty) events outcomes)
    → EndsWellInMemory events outcomes run.first run.last
ends_well events outcomes run =
    let none : plain_tables run.first ≡ all_empty =
    run.began.stores.found (refl, refl, refl) (plain_tables run.first) (now_left run.first) in
    let start = empty_start run.first none in
    let end = run.ended start (refl, refl, refl) in
    record {
      empty = none;
      start = start;
      end = end;
      told = ∥∥₁_map (end.told (plain_tables run.last) (now_left run.last)) (λ led.
          let before : led.0 ≡ all_empty = left_is run.first led.0 led.1 ∙ none in
          subst (λ (b : AllTables). AllTold events outcomes b (plain_tables run.last)) before led.2);
    }
