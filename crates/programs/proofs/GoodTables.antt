-- Runs that begin with good tables end well, and leave good tables.
use Rattle.std.proofs.Common.{◌≡◌, List, sym, ap, subst}
use Rattle.std.proofs.Math.Logic.{∥∥₁_map}
use Rattle.keep.specs.Inside.{sound_through}
use Rattle.keep.specs.Seen.{Seen, IsSound}
use Rattle.endpoint.specs.Matches.{TablesMatchJournal}
use Rattle.laws_journals.specs.Envelopes.{IsAuthentic, SettledAreHandled}
use Rattle.laws_journals.specs.Journals.{AreLawful}
use Rattle.laws_stores.specs.Good.{journals_of, settled_in, letters_held_by, IsHeldIn}
use Rattle.laws_stores.specs.Sight.{AllTables, Sight, OrderTables, StockTables, AccountTables, AreClean, MayLeave}
use Rattle.laws_stores.specs.Sight.{orders_service, stocks_service, accounts_service}
use Rattle.schedule_text.specs.declared.event.Event.{Event}
use Rattle.schedule_text.specs.declared.outcome.Outcome.{Outcome}
use Rattle.schedule_runner.specs.Sight.{sight}
use Rattle.schedule_runner.specs.Told.{AllTold}
use Rattle.schedule_runner.specs.declared.world.World.{World}
use Rattle.programs.specs.GoodTables.{AreGood, GoesOn}
use Rattle.programs.specs.Runs.{IsGoodStart, IsGoodEnd, HasRun}

-- of three stores of which a stop leaves these tables and no others, of each service
module _ (s : Sight) (left : AllTables) (only : (t : AllTables) → MayLeave s t → t ≡ left)
    (now : AllTables) (stays : MayLeave s now) where
  purchasing_is : (t : OrderTables) → s.purchasing.may_leave t → t ≡ left.purchasing
  purchasing_is t may = ap (λ (a : AllTables). a.purchasing) (only (record now { purchasing = t })
      (record { purchasing = may; warehouse = stays.warehouse; billing = stays.billing }))

  warehouse_is : (t : StockTables) → s.warehouse.may_leave t → t ≡ left.warehouse
  warehouse_is t may = ap (λ (a : AllTables). a.warehouse) (only (record now { warehouse = t })
      (record { purchasing = stays.purchasing; warehouse = may; billing = stays.billing }))

  billing_is : (t : AccountTables) → s.billing.may_leave t → t ≡ left.billing
  billing_is t may = ap (λ (a : AllTables). a.billing) (only (record now { billing = t })
      (record { purchasing = stays.purchasing; warehouse = stays.warehouse; billing = may }))

  -- where these are good, it's a good start
  pub good_start : AreGood left → IsGoodStart s
  good_start good = record {
    matching = (
      λ t may. subst (TablesMatchJournal orders_service) (sym (purchasing_is t may)) good.purchasing,
      λ t may. subst (TablesMatchJournal stocks_service) (sym (warehouse_is t may)) good.warehouse,
      λ t may. subst (TablesMatchJournal accounts_service) (sym (billing_is t may)) good.billing,
    );
    good = record {
      lawful = λ t may. subst (λ u. AreLawful (journals_of u)) (sym (only t may)) good.lawful;
      settled = λ t may. subst (λ u. SettledAreHandled (journals_of u) (settled_in u)) (sym (only t may)) good.settled;
      held = λ t may kind e h u also. subst (λ v. IsAuthentic (journals_of v) e) (sym (only u also))
          (good.held kind e (subst (λ v. IsHeldIn (letters_held_by v kind) e) (only t may) h));
    };
  }

module _ {KO KS KA : Type 0} (orders : KO → Seen OrderTables) (stocks : KS → Seen StockTables)
    (accounts : KA → Seen AccountTables) where
  -- what a good end leaves is good
  pub good_left : (events : List Event) (outcomes : List Outcome) (first last : World KO KS KA)
      → IsGoodEnd orders stocks accounts events outcomes first last → (t : AllTables)
      → MayLeave (sight orders stocks accounts last) t → AreGood t
  good_left events outcomes first last end t may = record {
    purchasing = end.matching.0 t.purchasing may.purchasing;
    warehouse = end.matching.1 t.warehouse may.warehouse;
    billing = end.matching.2 t.billing may.billing;
    lawful = end.good.services.lawful t may;
    settled = end.good.services.settled t may;
    held = λ kind e h. end.good.services.held t may kind e h t may;
  }

  module _ (order_sound : (k : KO) → IsSound (orders k)) (stock_sound : (k : KS) → IsSound (stocks k))
      (account_sound : (k : KA) → IsSound (accounts k)) where
    -- a stop of stores that were just opened leaves their tables
    opened_stays : (Found : AllTables → Type 0) (events : List Event) (outcomes : List Outcome)
        (run : HasRun orders stocks accounts Found events outcomes)
        → AreClean (sight orders stocks accounts run.first)
        → (now : AllTables) × MayLeave (sight orders stocks accounts run.first) now
    opened_stays Found events outcomes run clean =
        let s = sight orders stocks accounts run.first in
        let opened = run.began.stores.new in
        let o = sound_through orders run.first.purchasing.endpoint (order_sound run.first.purchasing.endpoint.keep) in
        let k = sound_through stocks run.first.warehouse.endpoint (stock_sound run.first.warehouse.endpoint.keep) in
        let a = sound_through accounts run.first.billing.endpoint (account_sound run.first.billing.endpoint.keep) in (
          record {
            purchasing = s.purchasing.tables;
            warehouse = s.warehouse.tables;
            billing = s.billing.tables;
          },
          record {
            purchasing = o.stays clean.0 opened.purchasing.usable;
            warehouse = k.stays clean.1 opened.warehouse.usable;
            billing = a.stays clean.2 opened.billing.usable;
          },
        )

    -- a run over stores that are found to have these good tables ends well
    pub goes_on : (left : AllTables) → AreGood left → (Found : AllTables → Type 0) → ((t : AllTables) → Found t → t ≡ left)
        → (events : List Event) (outcomes : List Outcome) (run : HasRun orders stocks accounts Found events outcomes)
        → AreClean (sight orders stocks accounts run.last)
        → GoesOn orders stocks accounts left events outcomes run.first run.last
    goes_on left good Found is events outcomes run clean =
        let before = run.clean clean in
        let only = λ (t : AllTables) (may : MayLeave (sight orders stocks accounts run.first) t).
        is t (run.began.stores.found before t may) in
        let now = opened_stays Found events outcomes run before in
        let start = good_start (sight orders stocks accounts run.first) left only now.0 now.1 good in
        let end = run.ended start clean in
        record {
          found = only;
          start = start;
          end = end;
          leaves = good_left events outcomes run.first run.last end;
          told = λ t may. ∥∥₁_map (end.told t may) (λ led.
              subst (λ (b : AllTables). AllTold events outcomes b t) (only led.0 led.1) led.2);
        }
