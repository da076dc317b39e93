-- Changes that are steps: a state that is set follows the one before it, by the input of the row behind it.
use Rattle.std.specs.Prelude.{◌≡◌, List, [], ◌∷◌, Option, Some, None, ⊤}
use Rattle.base.specs.Entity.{Entity}
use Rattle.activities.specs.Rows.{sender_of}
use Rattle.keep.specs.declared.change.Change.{Change}
use Rattle.keep.specs.declared.change.Change.TheVariants.{Journal, State}
use Rattle.keep.specs.Tables.{Tables, changed_by}

-- `Follows` tells which states may follow one by an input of this sender
module _ {S C : Type 0} (Follows : Option Entity → S → S → Type 0) where
  -- a state that is set before a row of the journal follows the one that stood, where there was one, by that row's input
  abbrev pub IsStep : Change S C → List (Change S C) → Tables S C → Type 0
  IsStep (State e (Some new)) (Journal _ row ∷ _) t =
      (old : S) → t.entity e ≡ Some old → Follows (sender_of row.input) old new
  IsStep _ _ t = ⊤

  -- each of these changes is a step when its turn comes
  abbrev pub AreSteps : List (Change S C) → Tables S C → Type 0
  AreSteps [] t = ⊤
  AreSteps (c ∷ cs) t = IsStep c cs t × AreSteps cs (changed_by c t)
