-- Changes one after another, in two parts.
use Rattle.std.proofs.Common.{◌≡◌, List, [], ◌∷◌, ◌++◌, refl}
use Rattle.keep.specs.declared.change.Change.{Change}
use Rattle.keep.specs.Tables.{Tables, changed, changed_by, ArePlaced}

pub changed-append : {S C : Type 0} (xs ys : List (Change S C)) (t : Tables S C)
    → changed (xs ++ ys) t ≡ changed ys (changed xs t)
changed-append [] ys t = refl
changed-append (x ∷ xs) ys t = changed-append xs ys (changed_by x t)

pub placed-append : {S C : Type 0} (xs ys : List (Change S C)) (t : Tables S C) → ArePlaced xs t
    → ArePlaced ys (changed xs t)
    → ArePlaced (xs ++ ys) t
placed-append [] ys t none behind = behind
placed-append (x ∷ xs) ys t first behind = (first.0, placed-append xs ys (changed_by x t) first.1 behind)
