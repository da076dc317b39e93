-- Runs whose outcomes are told as they come.
use Rattle.std.proofs.Common.{◌≡◌, ℕ, ◌+◌, ◌<◌, List, [], ◌∷◌, ◌++◌, length, take, get_or, Option, Ok, Err, refl, sym, ap}
use Rattle.std.proofs.Common.{subst, ◌∙◌, arith}
use Rattle.std.proofs.Math.Seq.{take-length}
use Rattle.std.proofs.lemmas.List.{take_more, append-nil}
use Rattle.std.proofs.lemmas.List.Concat.{flat_map-append}
use Rattle.std.specs.Io.KnownBytes.{Appends, Keeps}
use Rattle.keep.specs.Seen.{Seen}
use Rattle.laws_stores.specs.Sight.{AllTables, OrderTables, StockTables, AccountTables}
use Rattle.schedule_text.specs.Outcomes.{outcome_lines}
use Rattle.schedule_text.specs.declared.event.Event.{Event}
use Rattle.schedule_text.specs.declared.outcome.Outcome.{Outcome}
use Rattle.schedule_runner.specs.Deeds.{Step}
use Rattle.schedule_runner.specs.Passing.{Passes, Passed}
use Rattle.schedule_runner.specs.Paths.{Makes}
use Rattle.schedule_runner.specs.declared.world.World.{World}
use Rattle.schedule_runner.proofs.Advancing.{SoFar, far_none, far_more}
use Rattle.schedule_runner.proofs.Journaling.{goes_told}
use Rattle.schedule_runner.proofs.Righting.{good_agree}
use Rattle.schedule_io.specs.Ends.{AreRun, lines_of}
use Rattle.programs.specs.Runs.{IsBeginning, HasLeft}
use Rattle.schedule_io.specs.declared.fault.RunFault.TheVariants.{Device}
use Rattle.programs.proofs.Beginnings.{has_left}
use Rattle.streams.specs.Written.{AppendsPart}
use Rattle.streams.proofs.Writes.{appends_then, appends_nothing, appends_keeps, part_whole, part_keeps}

-- the lines of one outcome more
lines_more : (outcomes : List Outcome) (o : Outcome) → lines_of (outcomes ++ o ∷ []) ≡ lines_of outcomes ++ outcome_lines o
lines_more outcomes o = flat_map-append outcome_lines outcomes (o ∷ [])
    ∙ ap (λ (t : List ℕ). lines_of outcomes ++ t) (append-nil (outcome_lines o))

module _ {KO KS KA : Type 0} (orders : KO → Seen OrderTables) (stocks : KS → Seen StockTables)
    (accounts : KA → Seen AccountTables) where
  abbrev W : Type 0
  W = World KO KS KA

  -- the first so many events were made, and what is told of them is written
  pub record ToldSoFar (events : List Event) (index : ℕ) (first now : W) (old new : Option (List ℕ)) : Type 0 where
    pub outcomes : List Outcome
    pub far : SoFar orders stocks accounts events index [] outcomes first now
    pub written : Appends old new (lines_of outcomes)

  -- what the step for an event does
  abbrev pub Does : Event → Outcome → W → W → Type 0
  Does e o = Passes orders stocks accounts (Makes (Passed orders stocks accounts) e o)
      (Makes (Step orders stocks accounts) e o)

  far_then : (events : List Event) (e : Event) (o : Outcome) (index : ℕ) (first mid last : W) (outcomes : List Outcome)
      → index < length events → e ≡ get_or events index e → SoFar orders stocks accounts events index [] outcomes first mid
      → Does e o mid last → SoFar orders stocks accounts events (index + 1) [] (outcomes ++ o ∷ []) first last
  far_then events e o index first mid last outcomes lt at far does =
      far_more orders stocks accounts events e o index (index + 1) [] outcomes (outcomes ++ o ∷ []) first mid last refl
      (take_more events index e lt ∙ ap (λ v. take index events ++ v ∷ []) (sym at)) refl far does

  pub told_none : (events : List Event) (w : W) (out : Option (List ℕ)) → ToldSoFar events 0 w w out out
  told_none events w out = record {
    outcomes = [];
    far = far_none orders stocks accounts events [] [] w refl;
    written = appends_nothing out;
  }

  -- one event more, and its lines
  pub told_more : (events : List Event) (e : Event) (o : Outcome) (index : ℕ) (first mid last : W)
      (old out new : Option (List ℕ))
      → index < length events → e ≡ get_or events index e → ToldSoFar events index first mid old out
      → Does e o mid last → Appends out new (outcome_lines o) → ToldSoFar events (index + 1) first last old new
  told_more events e o index first mid last old out new lt at told does next = record {
    outcomes = told.outcomes ++ o ∷ [];
    far = far_then events e o index first mid last told.outcomes lt at told.far does;
    written = subst (Appends old new) (sym (lines_more told.outcomes o))
        (appends_then old out new (lines_of told.outcomes) (outcome_lines o) told.written next);
  }

  -- ---- how it ends, in a world that was just opened
  module _ (Found : AllTables → Type 0) (first : W) (began : IsBeginning orders stocks accounts Found first) where
    run_so_far : (events : List Event) (index : ℕ) (outcomes : List Outcome) (last : W)
        → SoFar orders stocks accounts events index [] outcomes first last
        → HasLeft orders stocks accounts Found last (take (length outcomes) events) outcomes
    run_so_far events index outcomes last far =
        let p = far.passes in
        let ran = has_left orders stocks accounts Found (take index events) far.made first last began p.clean p.matching
        p.good (good_agree orders stocks accounts first last p.good) p.did
        (goes_told orders stocks accounts (take index events) far.made first last p.goes) in
        subst (λ os. HasLeft orders stocks accounts Found last (take (length os) events) os) (sym far.appended)
        (subst (λ n. HasLeft orders stocks accounts Found last (take n events) far.made) (sym far.count) ran)

    -- all events were made
    pub all_told : (events : List Event) (index : ℕ) (last : W) (old out new : Option (List ℕ))
        → index ≡ length events → ToldSoFar events index first last old out → Keeps out new
        → AreRun (HasLeft orders stocks accounts Found last) (λ _. ⊥) events old new (Ok tt)
    all_told events index last old out new all told kept =
        let whole : take (length told.outcomes) events ≡ events =
        ap (λ n. take n events) (ap length told.far.appended ∙ told.far.count ∙ all) ∙ take-length events in (
          told.outcomes,
          subst (λ es. HasLeft orders stocks accounts Found last es told.outcomes) whole
              (run_so_far events index told.outcomes last told.far),
          appends_keeps old out new (lines_of told.outcomes) told.written kept,
        )

    -- the writer failed behind the last event
    pub not_flushed : (events : List Event) (index : ℕ) (last : W) (old out new : Option (List ℕ))
        → ToldSoFar events index first last old out → Keeps out new
        → AreRun (HasLeft orders stocks accounts Found last) (λ _. ⊥) events old new (Err Device)
    not_flushed events index last old out new told kept = (
      told.outcomes,
      run_so_far events index told.outcomes last told.far,
      record {
        before = told.outcomes;
        last = [];
        one = omega arith;
        are = sym (append-nil told.outcomes);
        mid = out;
        written = told.written;
        part = part_keeps out out new [] (part_whole out out [] (appends_nothing out)) kept;
      },
    )

    -- it failed at an event's lines
    pub cut_off : (events : List Event) (e : Event) (o : Outcome) (index : ℕ) (mid last : W)
        (old out new : Option (List ℕ))
        → index < length events → e ≡ get_or events index e → ToldSoFar events index first mid old out
        → Does e o mid last → AppendsPart out new (outcome_lines o)
        → AreRun (HasLeft orders stocks accounts Found last) (λ _. ⊥) events old new (Err Device)
    cut_off events e o index mid last old out new lt at told does part = (
      told.outcomes ++ o ∷ [],
      run_so_far events (index + 1) (told.outcomes ++ o ∷ []) last
          (far_then events e o index first mid last told.outcomes lt at told.far does),
      record {
        before = told.outcomes;
        last = o ∷ [];
        one = omega arith;
        are = refl;
        mid = out;
        written = told.written;
        part = subst (AppendsPart out new) (sym (append-nil (outcome_lines o))) part;
      },
    )
