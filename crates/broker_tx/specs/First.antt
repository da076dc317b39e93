-- The first item of a list that passes a test.
use Rattle.std.specs.Prelude.{◌≡◌, ℕ, ◌<◌, Bool, if◌then◌else◌, List, [], ◌∷◌, length, slice_set, Some, None}
use Rattle.std.specs.List.{find, slice_get}

-- the list with this item changed, and the same list where none passes
abbrev pub first_changed : {X : Type 0} → (X → Bool) → (X → X) → List X → List X
first_changed passes change [] = []
first_changed passes change (x ∷ xs) = if passes x then change x ∷ xs else x ∷ first_changed passes change xs

-- the first item that passes stands at a place: to change it is to write there
pub record IsFirstAt {X : Type 0} (passes : X → Bool) (xs : List X) (at : ℕ) : Type 0 where
  pub item : X
  pub within : at < length xs
  pub got : slice_get xs at ≡ Some item
  pub found : find passes xs ≡ Some item
  pub sets : (change : X → X) → first_changed passes change xs ≡ slice_set xs at (change item)

-- no item passes: to change the first is to change nothing
pub record PassesNone {X : Type 0} (passes : X → Bool) (xs : List X) : Type 0 where
  pub none : find passes xs ≡ None
  pub stays : (change : X → X) → first_changed passes change xs ≡ xs
