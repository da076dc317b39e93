-- Examples: what a service may take in, a step of one, and that a letter that nobody wrote would break the laws.
use Rattle.std.proofs.Common.{◌≡◌, ℕ, [], ◌∷◌, ◌&&◌, ◌==◌, Bool, true, false, Some, None, IsSome, refl}
use Rattle.std.proofs.Common.{sym, ap, subst, arith, inl, inr}
use Rattle.std.specs.Prelude.{⊤, Contains, if◌then◌else◌}
use Rattle.std.proofs.lemmas.List.Elements.{Contains-push_cases}
use Rattle.base.specs.Order.{same_entity, same_pair}
use Rattle.base.specs.declared.entity.Kind.TheVariants.{Stock}
use Rattle.base.specs.declared.limits.TheConstants.{HELD_WINDOW}
use Rattle.base.specs.declared.pair.Pair.{Pair}
use Rattle.envelope.specs.declared.message.Envelope.{Envelope}
use Rattle.envelope.specs.declared.message.Envelope.TheVariants.{Letter, Settle}
use Rattle.envelope.specs.declared.message.Letter as letter
use Rattle.envelope.specs.declared.message.Message.TheVariants.{Request}
use Rattle.trade.specs.declared.commands.StockCommand.{StockCommand}
use Rattle.trade.specs.declared.commands.StockCommand.TheVariants.{Receive}
use Rattle.activities.specs.declared.input.Input.TheVariants.{FromSeat}
use Rattle.activities.proofs.Sameness.{either}
use Rattle.keep.specs.Tables.{empty}
use Rattle.endpoint.specs.Arrivals.{row_of_letter}
use Rattle.endpoint.specs.Deeds.{Kept, kept, Deed, TakesIn, Holds, Did, with_held}
use Rattle.endpoint.specs.Matches.{TablesMatchJournal, MayBeHeld}
use Rattle.endpoint.specs.declared.answer.Ingested.TheVariants as ingested
use Rattle.endpoint.proofs.Examples.{o1, bolts}
use Rattle.endpoint.proofs.Opening.{empty-matches}
use Rattle.laws_stores.specs.Sight.{AllTables, OrderTables, StockTables, AccountTables, stocks_service}
use Rattle.laws_stores.proofs.Doing.{both_same}
use Rattle.laws_services.specs.Good.{AreGoodServices}
use Rattle.laws_services.specs.Services.{Traffic, Services, DidNothing}
use Rattle.laws_services.specs.Steps.{IsFounded, CameByDeeds, Does, TakesLetter, StepOfOne, AtWarehouse}
use Rattle.laws_services.proofs.Living.{only}
use Rattle.laws_services.proofs.Running.{new_good}

-- a letter of an order to its stock, and the one behind it, which comes early
abbrev pub pair : Pair
pair = record { from = o1; to = bolts }

abbrev pub first : letter.Letter
first = record { pair = pair; number = 1; message = Request 3 }

abbrev pub early : letter.Letter
early = record { pair = pair; number = 2; message = Request 3 }

-- warehouse did nothing, or holds the early one
abbrev pub idle : StockTables
idle = empty

abbrev pub holding : StockTables
holding = record empty { held = with_held early idle.held }

-- nothing was written or taken; the early one was written; it was taken
abbrev silence : Traffic
silence = record { written = []; taken = [] }

abbrev sent : Traffic
sent = record { written = Letter early ∷ []; taken = [] }

abbrev received : Traffic
received = record { written = Letter early ∷ []; taken = early ∷ [] }

-- three services of which warehouse has these tables
abbrev pub services : StockTables → Traffic → Services OrderTables StockTables AccountTables
services warehouse traffic = record { purchasing = empty; warehouse = warehouse; billing = empty; traffic = traffic }

-- ---- what is taken in

pub has_none : {A : Type 0} (x : A) → Contains [] x → ⊥
has_none x h = let least = h.1 in omega (arith, least)

abbrev pub number_in : Envelope → ℕ
number_in (Letter l) = l.number
number_in (Settle p n) = n

-- a letter that was written or was held, and a command; but none that nobody wrote, or where another one was written
some_deeds_are_founded : IsFounded (Letter early ∷ []) (kept idle) (Holds early)
    × IsFounded [] (kept holding) (TakesIn (row_of_letter early))
    × IsFounded [] (kept idle) (TakesIn (record { entity = bolts; input = FromSeat 0 (Receive 10) }))
    × (IsFounded [] (kept idle) (Holds early) → ⊥) × (IsFounded (Letter first ∷ []) (kept idle) (Holds early) → ⊥)
unfolding same_entity same_pair
some_deeds_are_founded = (
  inl (0, omega arith, refl),
  inr refl,
  tt,
  λ h. either h (has_none (Letter early)) (λ held. absurd (cc)),
  λ h. either h
      (λ was. either (Contains-push_cases [] (Letter first) (Letter early) was)
      (has_none (Letter early))
      (λ same. let numbers : 1 ≡ 2 = ap number_in same in omega (arith, numbers)))
      (λ held. absurd (cc)),
)

-- ---- a step: warehouse holds the letter that comes early

held_it : Did stocks_service (kept idle) (Holds early) (kept holding)
unfolding same_entity same_pair
held_it = (record { mine = refl; early = omega arith; near = omega arith; within = omega arith }, omega arith, refl)

held_alone : (p : Pair) (n : ℕ) (b : Bool) → (same_pair pair p && 2 == n) ≡ b
    → IsSome (if b then Some (Request 3) else None)
    → MayBeHeld HELD_WINDOW Stock 0 p n
held_alone p n true e some =
    let there = both_same pair p 2 n (same_pair pair p) refl e in
    subst (λ (q : Pair). MayBeHeld HELD_WINDOW Stock 0 q n) there.0
    (subst (λ (k : ℕ). MayBeHeld HELD_WINDOW Stock 0 pair k) there.1
    (record { mine = refl; early = omega arith; near = omega arith; within = omega arith }))
held_alone p n false e some = absurd (cc)

holding_matches : TablesMatchJournal stocks_service holding
holding_matches =
    let old : TablesMatchJournal stocks_service idle = empty-matches HELD_WINDOW stocks_service in
    record {
      legal = old.legal;
      entities = old.entities;
      sent = old.sent;
      numbers = old.numbers;
      settled = old.settled;
      unsettled = old.unsettled;
      handled = old.handled;
      held = λ p n some. held_alone p n (same_pair pair p && 2 == n) refl some;
    }

abbrev came_by_holding : (allowed : Kept StockCommand → Deed StockCommand → Type 0) → allowed (kept idle) (Holds early)
    → (t : StockTables) → t ≡ holding
    → CameByDeeds stocks_service allowed (only idle).may_leave t
came_by_holding allowed may t is = record {
  before = idle;
  through = holding ∷ [];
  was = refl;
  did = ((Holds early, may, held_it), is);
}

does_hold : (allowed : Kept StockCommand → Deed StockCommand → Type 0) → allowed (kept idle) (Holds early)
    → Does only stocks_service allowed idle holding
does_hold allowed may = record {
  doubt = omega arith;
  comes = λ clean match t is. ∣ came_by_holding allowed may t is ∣₁;
  matches = λ clean match t is. subst (TablesMatchJournal stocks_service) (sym is) holding_matches;
}

an_early_letter_is_taken : StepOfOne only only only (services idle sent) (services holding received)
an_early_letter_is_taken = AtWarehouse (record {
  does = does_hold (IsFounded sent.written) some_deeds_are_founded.0;
  writes = λ e was. inl was;
  takes = λ l was. either (Contains-push_cases [] early l was)
      (λ none. inl none)
      (λ same. inr (subst (λ k. TakesLetter only stocks_service k idle holding) same
      (λ clean match t is. ∣ (came_by_holding (λ x d. ⊤) tt t is, inl (Holds early, (ingested.Held, refl), held_it)) ∣₁)));
}) refl refl

-- ---- without the premise the laws don't hold: where nobody wrote the letter, the services aren't good behind it

what_nobody_wrote_breaks_the_laws : AreGoodServices only only only (services idle silence)
    × Does only stocks_service (λ x d. ⊤) idle holding
    × (AreGoodServices only only only (services holding silence) → ⊥)
unfolding same_entity same_pair
what_nobody_wrote_breaks_the_laws = (
  new_good only only only (services idle silence) nothing_done,
  does_hold (λ x d. ⊤) tt,
  λ good. let t : AllTables = record { purchasing = empty; warehouse = holding; billing = empty } in
      let was = good.services.held t (record { purchasing = refl; warehouse = refl; billing = refl }) Stock
      (Letter early) refl t (record { purchasing = refl; warehouse = refl; billing = refl }) in
      absurd (cc),
)
  where
    nothing_done : DidNothing only only only (services idle silence)
    nothing_done = record {
      purchasing = λ t is. is;
      warehouse = λ t is. is;
      billing = λ t is. is;
      written = refl;
      taken = refl;
    }
