-- Examples: a world in which an order is placed, and then placed again; what the two events do to it, to the tables,
-- and what is told.
use Rattle.std.proofs.Common.{◌≡◌, ℕ, zero, suc, List, [], ◌∷◌, ◌++◌, length, Option, None, Result, Ok, Err, Bool, true}
use Rattle.std.proofs.Common.{false}
use Rattle.std.proofs.Common.{refl, sym, ap, subst, arith}
use Rattle.std.proofs.Math.Logic.{∥∥₁_elim}
use Rattle.std.specs.Prelude.{codes, nat_lt, if◌then◌else◌}
use Rattle.base.specs.Order.{same_entity}
use Rattle.envelope.specs.declared.message.Message.{Message}
use Rattle.trade.specs.declared.commands.OrderCommand.{OrderCommand}
use Rattle.trade.specs.declared.commands.OrderCommand.TheVariants.{Place}
use Rattle.activities.specs.declared.handler.Refusal.TheVariants.{AlreadyPlaced}
use Rattle.activities.specs.declared.input.JournalRow.{JournalRow}
use Rattle.trade.specs.Items.{item}
use Rattle.activities.specs.Numbered.{nth}
use Rattle.activities.specs.Service.{Service}
use Rattle.activities.proofs.Legal.{legal-none}
use Rattle.keep.specs.Failing.{Failing, through}
use Rattle.keep.specs.Seen.{Seen}
use Rattle.keep.specs.Tables.{empty}
use Rattle.endpoint.specs.declared.answer.Committed.{Committed as Position}
use Rattle.endpoint.specs.declared.fault.EndFault.{EndFault}
use Rattle.endpoint.specs.declared.fault.EndFault.TheVariants.{NotMine, Business}
use Rattle.endpoint.specs.Calls.{Commits}
use Rattle.endpoint.specs.Deeds.{Nothing, TakesIn}
use Rattle.endpoint.specs.Matches.{TablesMatchJournal}
use Rattle.endpoint.proofs.Examples.{o1}
use Rattle.laws_stores.specs.Sight.{OrderTables, StockTables, AccountTables, AllTables, all_empty, orders_service}
use Rattle.laws_stores.specs.Sight.{AreMatching, MayLeave}
use Rattle.schedule_mail.specs.Mails.{new_mail}
use Rattle.schedule_text.specs.declared.event.Event.{Event}
use Rattle.schedule_text.specs.declared.event.Event.TheVariants as event
use Rattle.schedule_text.specs.declared.event.SeatCommand.{SeatCommand}
use Rattle.schedule_text.specs.declared.outcome.Outcome.{Outcome}
use Rattle.schedule_text.specs.declared.outcome.Outcome.TheVariants.{Committed, NotDone, Stopped, Pumped}
use Rattle.schedule_service.specs.SiteSteps.{command_row}
use Rattle.schedule_service.specs.Outcomes.{commit_told}
use Rattle.schedule_runner.specs.declared.world.World.{World}
use Rattle.schedule_runner.specs.Deeds.{Moment, moment, Step, Goes}
use Rattle.schedule_runner.specs.Paths.{IsPath, Leads, Makes}
use Rattle.schedule_runner.specs.Sight.{sight, StaysMatching}
use Rattle.schedule_runner.specs.Steps.{WorldStep}
use Rattle.schedule_runner.specs.Told.{asks_orders, commands_from, AreTold, RecordsTold, AllTold, Told}
use Rattle.laws_stores.proofs.Placed.{placing, a_placed_order_is_committed, it_is_placed_once, before, after}
use Rattle.laws_stores.proofs.Placed.{before_matches, taken_in}

-- ---- the world

-- a store that has these tables
abbrev pub Store : Type 0 → Type 0
Store T = T

abbrev pub seen : {T : Type 0} → Store T → Seen T
seen t = record { tables = t; may_leave = λ u. u ≡ t; failures = 0; usable = true; doubt = 0; armed = None }

abbrev pub store : {T : Type 0} → Store T → Failing (Store T)
store t = record { keep = t; armed = None; is_down = false; failures = 0 }

abbrev pub TheWorld : Type 0
TheWorld = World (Store OrderTables) (Store StockTables) (Store AccountTables)

-- seat 0 places the order
abbrev asked : SeatCommand OrderCommand
asked = record { seat = 0; entity = o1; command = Place (item (codes "bolts") 3 ∷ []) (codes "acme") 500 }

-- the tables of services that did nothing match
no_message : (n : ℕ) → nth [] n ≡ None
no_message zero = refl
no_message (suc n) = refl

if_none : (b : Bool) (m : Option Message) → m ≡ None → None ≡ (if b then m else None)
if_none true m h = sym h
if_none false m h = refl

empty_matches : {S C : Type 0} (service : Service S C) → TablesMatchJournal {S = S} {C = C} service empty
empty_matches service = record {
  legal = legal-none service.reactions service.kind;
  entities = λ e. refl;
  sent = λ p. refl;
  numbers = λ p. omega arith;
  settled = λ p. omega arith;
  unsettled = λ p n. if_none (nat_lt 0 n) (nth [] n) (no_message n);
  handled = λ p. refl;
  held = λ p n some. let no : false ≡ true = some in cc;
}

module _ (any : TheWorld) where
  -- purchasing and warehouse have these tables; no connection is open, and nothing was sent
  abbrev pub world : OrderTables → StockTables → TheWorld
  world purchasing warehouse = record any {
    purchasing = record { endpoint = store purchasing; zero = None; one = None };
    warehouse = record { endpoint = store warehouse; zero = None; one = None };
    billing = record { endpoint = store empty; zero = None; one = None };
    mail = new_mail;
  }

  -- before and after the order was placed
  abbrev new : TheWorld
  new = world before empty

  abbrev done : TheWorld
  done = world after empty

  abbrev pub tables : OrderTables → AllTables
  tables purchasing = record all_empty { purchasing = purchasing }

  abbrev tables_of : AllTables → AllTables
  tables_of t = record { purchasing = t.purchasing; warehouse = t.warehouse; billing = t.billing }

  -- a stop leaves the tables that there are
  pub only : (x : OrderTables) (t : AllTables) → MayLeave (sight seen seen seen (world x empty)) t → t ≡ tables x
  only x t may = let one = may.purchasing in let two = may.warehouse in let three = may.billing in
      let same : tables_of t ≡ tables_of (tables x) = cc in same

  pub matches : (x : OrderTables) → TablesMatchJournal orders_service x
      → AreMatching (sight seen seen seen (world x empty))
  matches x match = (
    λ t here. subst (TablesMatchJournal orders_service) (sym here) match,
    λ t here. subst (TablesMatchJournal _) (sym here) (empty_matches _),
    λ t here. subst (TablesMatchJournal _) (sym here) (empty_matches _),
  )

  -- ---- two events

  abbrev events : List Event
  events = event.Order asked ∷ event.Order asked ∷ []

  abbrev outcomes : List Outcome
  outcomes = Committed 1 ∷ NotDone AlreadyPlaced ∷ []

  -- the order is placed and answered committed at the first row
  it_is_placed : WorldStep seen seen seen (event.Order asked) (Committed 1) new done
  it_is_placed = (
    record {
      result = Ok (record { pos = 1 });
      commits = record {
        call = ((refl, refl, refl, refl), refl);
        doubt = omega arith;
        clean = λ clean match. (a_placed_order_is_committed, taken_in);
      };
      tells = refl;
      after = (refl, refl);
    },
    refl,
    refl,
  )

  -- to place it again is refused, and nothing changes
  it_is_placed_once_only : WorldStep seen seen seen (event.Order asked) (NotDone AlreadyPlaced) done done
  it_is_placed_once_only = (
    record {
      result = Err (Business AlreadyPlaced);
      commits = record {
        call = (((refl, refl, refl, refl), (refl, tt)), tt);
        doubt = omega arith;
        clean = λ clean match. (it_is_placed_once, refl);
      };
      tells = refl;
      after = (refl, refl);
    },
    refl,
    refl,
  )

  -- how many rows the journal of purchasing has
  abbrev rows : TheWorld → ℕ
  rows w = length w.purchasing.endpoint.keep.journal

  -- both are a path, and a pump of no round is none; a path has an outcome for each event
  events_are_a_path : IsPath (Makes (WorldStep seen seen seen)) events outcomes new done
      × Makes (WorldStep seen seen seen) (event.Pump 0) Pumped done done
      × Leads (Makes (WorldStep seen seen seen)) events new done
      × (IsPath (Makes (WorldStep seen seen seen)) events (Committed 1 ∷ []) new done → ⊥)
      × (IsPath (Makes (WorldStep seen seen seen)) [] [] new done → ⊥)
      × (Makes (WorldStep seen seen seen) (event.Pump 0) Stopped done done → ⊥)
  events_are_a_path = (
    path,
    (refl, ([], refl)),
    (outcomes, path),
    λ h. h.2,
    λ h. let more : 1 ≡ 0 = ap rows h in omega (arith, more),
    λ h. let told = h.0 in absurd (cc),
  )
    where
      path : IsPath (Makes (WorldStep seen seen seen)) events outcomes new done
      path = (done, it_is_placed, (done, it_is_placed_once_only, refl))

  -- what was answered committed is in the journal, so that no world stays as it was
  nothing_is_lost : IsPath (Makes (WorldStep seen seen seen)) (event.Order asked ∷ []) (Committed 1 ∷ []) new new → ⊥
  nothing_is_lost (next, happened, end) = lost next happened.0.result happened.0.tells happened.0.commits end
    where
      lost : (next : TheWorld) (r : Result Position EndFault) → Committed 1 ≡ commit_told r
          → Commits (through seen) new.purchasing.endpoint next.purchasing.endpoint orders_service (command_row asked) r
          → new ≡ next → ⊥
      lost next (Ok c) tells commits end =
          let appended = (commits.clean refl (matches before before_matches).0).0.0.appended in
          let one : rows next ≡ 1 = ap length appended in
          let none : 0 ≡ rows next = ap rows end in omega (arith, one, none)
      lost next (Err NotMine) tells commits end = absurd (cc)
      lost next (Err (Business refusal)) tells commits end = absurd (cc)
      lost next (Err _) tells commits end = absurd (cc)

  -- ---- tables

  -- each content that a stop leaves now comes of one before, by what these events do
  they_go : Goes seen seen seen events outcomes new done
  they_go clean match t may = ∣ record {
    before = tables before;
    was = record { purchasing = refl; warehouse = refl; billing = refl };
    leads = (
      moment done (tables after),
      (it_is_placed, ((TakesIn placing, (refl, refl), (taken_in.takes, refl, refl)), refl, refl)),
      (
        moment done (tables after),
        (it_is_placed_once_only, ((Nothing, (refl, it_is_placed_once.2), refl), refl, refl)),
        ap (moment done) (only after t may),
      ),
    );
  } ∣₁

  -- a new broker loses no row: where a journal is shorter behind it, its content comes of none
  no_row_goes_away : Goes seen seen seen (event.StopBroker ∷ []) (Stopped ∷ []) done new → ⊥
  no_row_goes_away h =
      ∥∥₁_elim (h (refl, refl, refl) (matches after taken_in.matches) (tables before) here) (λ a b. absurd a)
      (λ led. gone led.before led.was led.leads)
    where
      here : MayLeave (sight seen seen seen new) (tables before)
      here = record { purchasing = refl; warehouse = refl; billing = refl }

      gone : (t : AllTables) → MayLeave (sight seen seen seen done) t
          → IsPath (Makes (Step seen seen seen)) (event.StopBroker ∷ []) (Stopped ∷ []) (moment done t)
          (moment new (tables before)) → ⊥
      gone t was (next, step, end) =
          let one : length t.purchasing.journal ≡ 1 = ap (λ (x : OrderTables). length x.journal) was.purchasing in
          let same : length next.tables.purchasing.journal ≡ length t.purchasing.journal =
          ap (λ (x : AllTables). length x.purchasing.journal) step.1 in
          let none : 0 ≡ length next.tables.purchasing.journal =
          ap (λ (x : Moment _ _ _). length x.tables.purchasing.journal) end in omega (arith, one, same, none)

  -- one row is one step, at its position
  a_row_is_a_step : Step seen seen seen (event.Order asked) (Committed 1) (moment new (tables before))
      (moment done (tables after))
      × (Step seen seen seen (event.Order asked) (Committed 2) (moment new (tables before)) (moment done (tables after))
      → ⊥)
  a_row_is_a_step = (
    (it_is_placed, ((TakesIn placing, (refl, refl), (taken_in.takes, refl, refl)), refl, refl)),
    λ h. let position = h.1.0.1.1 in omega (arith, position),
  )

  -- ---- what is told

  -- the journal has the order once, at the row that was told
  they_are_told : Told seen seen seen events outcomes new done
  they_are_told clean match t may = ∣ record {
    before = tables before;
    was = record { purchasing = refl; warehouse = refl; billing = refl };
    leads = subst (λ u. AllTold events outcomes (tables before) u) (sym (only after t may)) (record {
      purchasing = (placing ∷ [], refl, ((1, asked) ∷ [], [], refl, ([], [], refl, refl, refl), refl));
      warehouse = ([], refl, ([], [], refl, ([], [], refl, refl, refl), refl));
      billing = ([], refl, ([], [], refl, ([], [], refl, refl, refl), refl));
    });
  } ∣₁

  -- where it isn't there it can't have been answered committed
  a_lost_row_is_not_told : Told seen seen seen (event.Order asked ∷ []) (Committed 1 ∷ []) new new → ⊥
  a_lost_row_is_not_told h =
      ∥∥₁_elim (h (refl, refl, refl) (matches before before_matches) (tables before) here) (λ a b. absurd a)
      (λ led. lost led.before led.leads.purchasing)
    where
      here : MayLeave (sight seen seen seen new) (tables before)
      here = record { purchasing = refl; warehouse = refl; billing = refl }

      none : (old more : List (JournalRow OrderCommand)) → [] ≡ old ++ more
          → AreTold asks_orders (event.Order asked ∷ []) (Committed 1 ∷ []) (commands_from (suc (length old)) more) → ⊥
      none [] [] same (first, rest, tells, told, all) = absurd (cc)
      none [] (row ∷ more) same told = absurd (cc)
      none (row ∷ old) more same told = absurd (cc)

      lost : (t : AllTables) → RecordsTold asks_orders (event.Order asked ∷ []) (Committed 1 ∷ []) t.purchasing.journal
          [] → ⊥
      lost t (more, same, told) = none t.purchasing.journal more same told

  -- ---- tables that match

  -- no event leaves a journal's row without the order's state
  abbrev lost_state : OrderTables
  lost_state = record empty { journal = placing ∷ [] }

  tables_stay_matching : StaysMatching seen seen seen new done
      × (StaysMatching seen seen seen new (world lost_state empty) → ⊥)
  unfolding same_entity
  tables_stay_matching = (
    λ clean match. matches after taken_in.matches,
    λ h. let row =
        ((h (refl, refl, refl) (matches before before_matches)).0 lost_state refl).entities o1 in absurd (cc),
  )
