-- What is known of states beside the rows, and which changes are steps.
use Rattle.std.proofs.Common.{ℕ, Bool, true, false, List, [], ◌∷◌, Option, Some, None, refl, sym, subst}
use Rattle.std.specs.Prelude.{IsTrue}
use Rattle.sqlite.specs.State.{State}
use Rattle.base.specs.Entity.{Entity}
use Rattle.last_states.specs.Known.{Knows}
use Rattle.keep.specs.Steps.{AreSteps}
use Rattle.keep.specs.Tables.{Tables, changed_by}
use Rattle.keep.specs.declared.change.Change.{Change}
use Rattle.keep.specs.declared.change.Change.TheVariants as change
use Rattle.keep_sqlite.specs.Filing.{Filing}
use Rattle.keep_sqlite.specs.Ready.{Makes}
use Rattle.keep_sqlite.specs.Stepping.{IsStepBy, step_at}
use Rattle.keep_sqlite.specs.Tables.{tables_of}

-- what is known stands behind a write, where it stands in the tables that it makes
pub knows_made : {S C : Type 0} (f : Filing S C) (c : Change S C) (n : ℕ) (old new : State) (known : Entity → Option S)
    → Makes f (changed_by c) n old new → Knows known (changed_by c (tables_of f old.now.trees)).entity
    → Knows known (f.entity new.now.trees)
knows_made {S} {C} f c n old new known made knows =
    subst (λ (t : Tables S C). Knows known t.entity) (sym made.tables) knows

module _ {S C : Type 0} (F : Option Entity → S → S → Type 0) where
  -- a change is a step by the row behind it
  by_row : (c : Change S C) (behind : List (Change S C)) (t : Tables S C) → AreSteps F (c ∷ behind) t
      → IsStepBy F (step_at true behind) c t
  by_row c [] t h = tt
  by_row c (change.State e row ∷ cs) t h = tt
  by_row c (change.Sent l ∷ cs) t h = tt
  by_row c (change.Settled p n ∷ cs) t h = tt
  by_row c (change.Handled p n ∷ cs) t h = tt
  by_row c (change.Held l ∷ cs) t h = tt
  by_row c (change.NotHeld p n ∷ cs) t h = tt
  by_row (change.State e (Some new)) (change.Journal n row ∷ cs) t h = h.0
  by_row (change.State e None) (change.Journal n row ∷ cs) t h = tt
  by_row (change.Journal p r) (change.Journal n row ∷ cs) t h = tt
  by_row (change.Sent l) (change.Journal n row ∷ cs) t h = tt
  by_row (change.Settled p m) (change.Journal n row ∷ cs) t h = tt
  by_row (change.Handled p m) (change.Journal n row ∷ cs) t h = tt
  by_row (change.Held l) (change.Journal n row ∷ cs) t h = tt
  by_row (change.NotHeld p m) (change.Journal n row ∷ cs) t h = tt

  -- where changes are steps, the first of them is
  pub step_by : (are : Bool) (c : Change S C) (behind : List (Change S C)) (t : Tables S C)
      → (IsTrue are → AreSteps F (c ∷ behind) t) → IsStepBy F (step_at are behind) c t
  step_by true c behind t h = by_row c behind t (h refl)
  step_by false c behind t h = tt

  -- and behind it the rest are steps of the tables that it makes
  pub next_steps : (f : Filing S C) (c : Change S C) (behind : List (Change S C)) (n : ℕ) (old new : State)
      → Makes f (changed_by c) n old new → AreSteps F (c ∷ behind) (tables_of f old.now.trees)
      → AreSteps F behind (tables_of f new.now.trees)
  next_steps f c behind n old new made h = subst (λ (t : Tables S C). AreSteps F behind t) (sym made.tables) h.1
