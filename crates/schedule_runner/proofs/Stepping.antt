-- One event after another, whatever their outcomes were.
use Rattle.std.proofs.Common.{◌≡◌, ℕ, suc, List, [], ◌∷◌, ◌++◌, refl, sym, subst}
use Rattle.keep.specs.Seen.{Seen}
use Rattle.schedule_text.specs.declared.event.Event.{Event}
use Rattle.schedule_text.specs.declared.event.ConnectionName.{ConnectionName}
use Rattle.schedule_text.specs.declared.event.Event.TheVariants.{Take, Pump}
use Rattle.schedule_text.specs.declared.outcome.Outcome.{Outcome}
use Rattle.schedule_text.specs.declared.outcome.Outcome.TheVariants.{Pumped}
use Rattle.schedule_runner.specs.declared.world.World.{World}
use Rattle.schedule_runner.specs.Deeds.{Moment, Step}
use Rattle.schedule_runner.specs.Passing.{Passes, Passed, PassesAll}
use Rattle.schedule_runner.specs.Paths.{Leads, Makes, MakesApart}
use Rattle.schedule_runner.specs.Rounds.{takes, round_events, all_rounds}
use Rattle.laws_stores.specs.Sight.{OrderTables, StockTables, AccountTables}
use Rattle.schedule_runner.specs.Steps.{WorldStep}
use Rattle.schedule_runner.proofs.Composing.{goes_none, passes_map, passes_then}
use Rattle.schedule_runner.proofs.Following.{leads_append, leads_none, leads_one}
use Rattle.schedule_runner.proofs.Journaling.{event_told}
use Rattle.schedule_runner.proofs.Righting.{good_agree}

module _ {KO KS KA : Type 0} (orders : KO → Seen OrderTables) (stocks : KS → Seen StockTables)
    (accounts : KA → Seen AccountTables) where
  abbrev W : Type 0
  W = World KO KS KA

  abbrev M : Type 0
  M = Moment KO KS KA

  -- what an event does alone, and what holds behind it
  abbrev A : Event → Outcome → W → W → Type 0
  A = WorldStep orders stocks accounts

  abbrev H : Event → Outcome → W → W → Type 0
  H = Passed orders stocks accounts

  abbrev S : Event → Outcome → M → M → Type 0
  S = Step orders stocks accounts

  pub passes_all : (es more : List Event) (old mid new : W) → PassesAll orders stocks accounts es old mid
      → PassesAll orders stocks accounts more mid new → PassesAll orders stocks accounts (es ++ more) old new
  passes_all es more old mid new =
      passes_then orders stocks accounts (Leads H es) (Leads H more) (Leads H (es ++ more)) (Leads S es) (Leads S more)
      (Leads S (es ++ more)) old mid new (leads_append H es more old mid new) (leads_append S es more)

  pub passes_nothing : (w : W) → PassesAll orders stocks accounts [] w w
  passes_nothing w = record {
    clean = λ now. now;
    matching = λ now good. good;
    good = λ now match good. good;
    did = leads_none H w;
    goes = goes_none orders stocks accounts (Leads S []) (leads_none S) w;
  }

  -- an event that was made has passed
  passed : (e : Event) (o : Outcome) (old new : W) → Passes orders stocks accounts (A e o) (S e o) old new
      → H e o old new
  passed e o old new p =
      (p, good_agree orders stocks accounts old new p.good, event_told orders stocks accounts e o old new p.goes)

  pub passes_one : (e : Event) (o : Outcome) (old new : W) → Passes orders stocks accounts (A e o) (S e o) old new
      → PassesAll orders stocks accounts (e ∷ []) old new
  passes_one e o old new p = passes_map orders stocks accounts (A e o) (Leads H (e ∷ [])) (S e o) (Leads S (e ∷ []))
      old new (λ did. leads_one H e o old new (passed e o old new p)) (leads_one S e o) p

  -- one frame more, and one round more
  pub takes_more : (n k : ℕ) (c : ConnectionName) (old mid new : W) → k ≡ suc n
      → PassesAll orders stocks accounts (takes n c) old mid
      → PassesAll orders stocks accounts (Take c ∷ []) mid new → PassesAll orders stocks accounts (takes k c) old new
  takes_more n k c old mid new more first next =
      subst (λ j. PassesAll orders stocks accounts (takes j c) old new) (sym more)
      (passes_all (takes n c) (Take c ∷ []) old mid new first next)

  pub rounds_more : (n k : ℕ) (old mid new : W) → k ≡ suc n → PassesAll orders stocks accounts (all_rounds n) old mid
      → PassesAll orders stocks accounts round_events mid new → PassesAll orders stocks accounts (all_rounds k) old new
  rounds_more n k old mid new more first next =
      subst (λ j. PassesAll orders stocks accounts (all_rounds j) old new) (sym more)
      (passes_all (all_rounds n) round_events old mid new first next)

  -- a pump is its rounds
  pub passes_pump : (n : ℕ) (old new : W) → PassesAll orders stocks accounts (all_rounds n) old new
      → Passes orders stocks accounts (MakesApart H A (Pump n) Pumped) (Makes S (Pump n) Pumped) old new
  passes_pump n old new = passes_map orders stocks accounts (Leads H (all_rounds n)) (MakesApart H A (Pump n) Pumped)
      (Leads S (all_rounds n)) (Makes S (Pump n) Pumped) old new (λ did. (refl, did)) (λ a b leads. (refl, leads))

  -- any event, whichever it is: each step that it makes has passed
  pub makes_passed : (e : Event) (o : Outcome) (old new : W)
      → Passes orders stocks accounts (MakesApart H A e o) (Makes S e o) old new
      → Makes H e o old new
  makes_passed (Pump n) o old new p = p.did
  makes_passed e o old new p = passed e o old new p

  pub passes_made : (e : Event) (o : Outcome) (old new : W)
      → Passes orders stocks accounts (MakesApart H A e o) (Makes S e o) old new
      → Passes orders stocks accounts (Makes H e o) (Makes S e o) old new
  passes_made e o old new p = passes_map orders stocks accounts (MakesApart H A e o) (Makes H e o) (Makes S e o)
      (Makes S e o) old new (λ did. makes_passed e o old new p) (λ a b leads. leads) p
