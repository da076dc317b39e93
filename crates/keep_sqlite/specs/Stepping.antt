-- Which changes are steps, as the writes of a transaction see it.
use Rattle.std.specs.Prelude.{◌≡◌, Bool, true, false, List, ◌∷◌, Option, Some, None, ⊤}
use Rattle.base.specs.Entity.{Entity}
use Rattle.activities.specs.Rows.{sender_of}
use Rattle.keep.specs.Tables.{Tables}
use Rattle.keep.specs.declared.change.Change.{Change}
use Rattle.keep.specs.declared.change.Change.TheVariants.{Journal, State}

-- who sent the input of the journal's row that stands first, if one does
abbrev pub sender_behind : {S C : Type 0} → List (Change S C) → Option (Option Entity)
sender_behind (Journal _ row ∷ _) = Some (sender_of row.input)
sender_behind _ = None

-- the same where changes are steps
abbrev pub step_at : {S C : Type 0} → Bool → List (Change S C) → Option (Option Entity)
step_at true behind = sender_behind behind
step_at false behind = None

-- a state that is set by an input of this sender follows the one that stood, where there was one
abbrev pub IsStepBy : {S C : Type 0} → (Option Entity → S → S → Type 0) → Option (Option Entity) → Change S C
    → Tables S C → Type 0
IsStepBy {S} Follows (Some sender) (State e (Some new)) t = (old : S) → t.entity e ≡ Some old → Follows sender old new
IsStepBy Follows _ _ t = ⊤
