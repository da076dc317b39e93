-- Rows that are taken in, one by one.
use Rattle.std.proofs.Common.{◌≡◌, List, [], ◌∷◌, ◌++◌, map, Option, Some, None, refl, ap}
use Rattle.std.specs.Option.{option_and_then}
use Rattle.sql_bodies.specs.Steps.{steps}

pub steps_map : {X R S : Type 0} (f : X → R) (step : R → S → Option S) (xs : List X) (made : S)
    → steps step (map f xs) made ≡ steps (λ x. step (f x)) xs made
steps_map f step [] made = refl
steps_map f step (x ∷ xs) made = ap (λ g. option_and_then g (step (f x) made)) (λ i m. steps_map f step xs m i)

module _ {R S : Type 0} (step : R → S → Option S) where
  last : (o : Option S) → option_and_then (steps step []) o ≡ o
  last None = refl
  last (Some made) = refl

  behind : (xs : List R) (x : R) (o : Option S)
      → ((made : S) → steps step (xs ++ x ∷ []) made ≡ option_and_then (step x) (steps step xs made))
      → option_and_then (steps step (xs ++ x ∷ [])) o ≡ option_and_then (step x) (option_and_then (steps step xs) o)
  behind xs x None each = refl
  behind xs x (Some made) each = each made

  pub steps_more : (xs : List R) (x : R) (made : S)
      → steps step (xs ++ x ∷ []) made ≡ option_and_then (step x) (steps step xs made)
  steps_more [] x made = last (step x made)
  steps_more (y ∷ xs) x made = behind xs x (step y made) (steps_more xs x)
