-- How far a run is.
use Rattle.std.proofs.Common.{◌≡◌, ℕ, ◌+◌, List, [], ◌∷◌, ◌++◌, length, take, refl, ap, sym, ◌∙◌, subst, arith}
use Rattle.std.proofs.Common.{append_assoc, length-append}
use Rattle.std.specs.Prelude.{Result, Ok, Err, OnOk}
use Rattle.keep.specs.Seen.{Seen}
use Rattle.schedule_text.specs.declared.event.Event.{Event}
use Rattle.schedule_text.specs.declared.outcome.Outcome.{Outcome}
use Rattle.schedule_runner.specs.declared.world.World.{World}
use Rattle.schedule_runner.specs.Deeds.{Moment, Goes, Step}
use Rattle.schedule_runner.specs.Passing.{Passes, Passed}
use Rattle.schedule_runner.specs.Paths.{IsPath, Makes}
use Rattle.schedule_runner.specs.Runs.{Ran}
use Rattle.laws_stores.specs.Sight.{OrderTables, StockTables, AccountTables}
use Rattle.schedule_runner.specs.Told.{Told}
use Rattle.schedule_runner.proofs.Composing.{goes_none, passes_then}
use Rattle.schedule_runner.proofs.Following.{path_append, path_one}
use Rattle.schedule_runner.proofs.Journaling.{goes_told}

module _ {KO KS KA : Type 0} (orders : KO → Seen OrderTables) (stocks : KS → Seen StockTables)
    (accounts : KA → Seen AccountTables) where
  abbrev W : Type 0
  W = World KO KS KA

  abbrev H : Event → Outcome → W → W → Type 0
  H = Passed orders stocks accounts

  abbrev S : Event → Outcome → Moment KO KS KA → Moment KO KS KA → Type 0
  S = Step orders stocks accounts

  -- the first so many events were made, and their outcomes appended
  pub record SoFar (events : List Event) (index : ℕ) (first now : List Outcome) (old new : W) : Type 0 where
    pub made : List Outcome
    pub appended : now ≡ first ++ made
    pub count : length made ≡ index
    pub passes : Passes orders stocks accounts (IsPath (Makes H) (take index events) made)
        (IsPath (Makes S) (take index events) made)
        old new

  none : (events : List Event) → take 0 events ≡ []
  none [] = refl
  none (e ∷ es) = refl

  pub far_none : (events : List Event) (first now : List Outcome) (w : W) → now ≡ first ++ []
      → SoFar events 0 first now w w
  far_none events first now w same = record {
    made = [];
    appended = same;
    count = refl;
    passes = record {
      clean = λ now. now;
      matching = λ now good. good;
      good = λ now match good. good;
      did = subst (λ es. IsPath (Makes H) es [] w w) (sym (none events)) refl;
      goes = goes_none orders stocks accounts (IsPath (Makes S) (take 0 events) [])
          (λ a. subst (λ es. IsPath (Makes S) es [] a a) (sym (none events)) refl) w;
    };
  }

  pub far_more : (events : List Event) (e : Event) (o : Outcome) (index next : ℕ) (first now later : List Outcome)
      (old mid new : W)
      → next ≡ index + 1 → take next events ≡ take index events ++ e ∷ [] → later ≡ now ++ o ∷ []
      → SoFar events index first now old mid
      → Passes orders stocks accounts (Makes H e o) (Makes S e o) mid new → SoFar events next first later old new
  far_more events e o index next first now later old mid new plus more pushed far p = record {
    made = far.made ++ o ∷ [];
    appended = pushed ∙ ap (λ l. l ++ o ∷ []) far.appended ∙ append_assoc first far.made (o ∷ []);
    count = let long = length-append far.made (o ∷ []) in let was = far.count in omega (arith, long, was, plus);
    passes = subst (λ es. Passes orders stocks accounts (IsPath (Makes H) es (far.made ++ o ∷ []))
        (IsPath (Makes S) es (far.made ++ o ∷ [])) old new)
        (sym more)
        (passes_then orders stocks accounts (IsPath (Makes H) (take index events) far.made) (Makes H e o)
        (IsPath (Makes H) (take index events ++ e ∷ []) (far.made ++ o ∷ []))
        (IsPath (Makes S) (take index events) far.made) (Makes S e o)
        (IsPath (Makes S) (take index events ++ e ∷ []) (far.made ++ o ∷ [])) old mid new
        (λ path step. path_append (Makes H) (take index events) far.made (e ∷ []) (o ∷ []) old mid new path
        (path_one (Makes H) e o mid new step))
        (λ a b c path step. path_append (Makes S) (take index events) far.made (e ∷ []) (o ∷ []) a b c path
        (path_one (Makes S) e o b c step))
        far.passes p);
  }

  -- ---- what is told at the end

  ran : {E : Type 0} (Made : List Event → List Outcome → Type 0) (events : List Event) (index : ℕ)
      (first now : List Outcome) (old new : W)
      (result : Result Unit E) → (far : SoFar events index first now old new) → Made (take index events) far.made
      → (OnOk result (index ≡ length events))
      → (OnOk result (index ≡ length events) → OnOk result (length far.made ≡ length events))
      → Ran Made events first now result
  ran Made events index first now old new result far made all whole = record {
    outcomes = far.made;
    appended = far.appended;
    made = subst (λ n. Made (take n events) far.made) (sym far.count) made;
    all = whole all;
  }

  whole : {E : Type 0} (result : Result Unit E) (made index all : ℕ) → made ≡ index → OnOk result (index ≡ all)
      → OnOk result (made ≡ all)
  whole (Ok r) made index all e h = e ∙ h
  whole (Err r) made index all e h = tt

  pub ran_did : {E : Type 0} (events : List Event) (index : ℕ) (first now : List Outcome) (old new : W)
      (result : Result Unit E)
      → SoFar events index first now old new → OnOk result (index ≡ length events)
      → Ran (λ es os. IsPath (Makes H) es os old new) events first now result
  ran_did events index first now old new result far all =
      ran (λ es os. IsPath (Makes H) es os old new) events index first now old new
      result
      far far.passes.did all (whole result (length far.made) index (length events) far.count)

  pub ran_goes : {E : Type 0} (events : List Event) (index : ℕ) (first now : List Outcome) (old new : W)
      (result : Result Unit E)
      → SoFar events index first now old new → OnOk result (index ≡ length events)
      → Ran (λ es os. Goes orders stocks accounts es os old new) events first now result
  ran_goes events index first now old new result far all =
      ran (λ es os. Goes orders stocks accounts es os old new) events index first now
      old new result far far.passes.goes all (whole result (length far.made) index (length events) far.count)

  pub ran_told : {E : Type 0} (events : List Event) (index : ℕ) (first now : List Outcome) (old new : W)
      (result : Result Unit E)
      → SoFar events index first now old new → OnOk result (index ≡ length events)
      → Ran (λ es os. Told orders stocks accounts es os old new) events first now result
  ran_told events index first now old new result far all =
      ran (λ es os. Told orders stocks accounts es os old new) events index first now
      old new result far (goes_told orders stocks accounts (take index events) far.made old new far.passes.goes) all
      (whole result (length far.made) index (length events) far.count)
