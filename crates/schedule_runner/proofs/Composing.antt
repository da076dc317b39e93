-- One part of a step after another.
use Rattle.std.proofs.Math.Logic.{∥∥₁_elim, ∥∥₁_map}
use Rattle.std.proofs.Props.{props}
use Rattle.keep.specs.Seen.{Seen}
use Rattle.schedule_runner.specs.declared.world.World.{World}
use Rattle.schedule_runner.specs.Deeds.{Moment, moment, GoesBy}
use Rattle.schedule_runner.specs.Passing.{Passes}
use Rattle.laws_stores.specs.Sight.{OrderTables, StockTables, AccountTables}
use Rattle.schedule_runner.specs.Sight.{StaysClean, StaysMatching}

module _ {KO KS KA : Type 0} (orders : KO → Seen OrderTables) (stocks : KS → Seen StockTables)
    (accounts : KA → Seen AccountTables) where
  abbrev W : Type 0
  W = World KO KS KA

  abbrev M : Type 0
  M = Moment KO KS KA

  -- what leads so leads thus too
  pub goes_map : (R Q : M → M → Type 0) → ((a b : M) → R a b → Q a b) → (old new : W)
      → GoesBy orders stocks accounts R old new
      → GoesBy orders stocks accounts Q old new
  goes_map R Q map old new goes clean good t may = ∥∥₁_map (goes clean good t may) (λ led. record {
    before = led.before;
    was = led.was;
    leads = map (moment old led.before) (moment new t) led.leads;
  })

  -- and one part behind another
  pub goes_then : (R Q P : M → M → Type 0) → ((a b c : M) → R a b → Q b c → P a c) → (old mid new : W)
      → StaysClean orders stocks accounts mid new → StaysMatching orders stocks accounts old mid
      → GoesBy orders stocks accounts R old mid → GoesBy orders stocks accounts Q mid new
      → GoesBy orders stocks accounts P old new
  goes_then R Q P join old mid new clean sound first next now good t may =
      let was = clean now in
      ∥∥₁_elim (next now (sound was good) t may) (hlevel props) (λ led. ∥∥₁_map (first was good led.before led.was)
      (λ from. record {
        before = from.before;
        was = from.was;
        leads = join (moment old from.before) (moment mid led.before) (moment new t) from.leads led.leads;
      }))

  -- nothing was done
  pub goes_none : (R : M → M → Type 0) → ((a : M) → R a a) → (w : W) → GoesBy orders stocks accounts R w w
  goes_none R same w clean good t may = ∣ record { before = t; was = may; leads = same (moment w t) } ∣₁

  pub passes_map : (D E : W → W → Type 0) (R Q : M → M → Type 0) (old new : W) → (D old new → E old new)
      → ((a b : M) → R a b → Q a b)
      → Passes orders stocks accounts D R old new → Passes orders stocks accounts E Q old new
  passes_map D E R Q old new whole map p = record {
    clean = p.clean;
    matching = p.matching;
    good = p.good;
    did = whole p.did;
    goes = goes_map R Q map old new p.goes;
  }

  pub passes_then : (D E F : W → W → Type 0) (R Q P : M → M → Type 0) (old mid new : W)
      → (D old mid → E mid new → F old new)
      → ((a b c : M) → R a b → Q b c → P a c)
      → Passes orders stocks accounts D R old mid → Passes orders stocks accounts E Q mid new
      → Passes orders stocks accounts F P old new
  passes_then D E F R Q P old mid new whole join first next = record {
    clean = λ now. first.clean (next.clean now);
    matching = λ now good. next.matching now (first.matching (next.clean now) good);
    good = λ now match good. next.good now (first.matching (next.clean now) match)
        (first.good (next.clean now) match good);
    did = whole first.did next.did;
    goes = goes_then R Q P join old mid new next.clean first.matching first.goes next.goes;
  }
