-- The values of a slab's slots, in order of their numbers.
use Rattle.std.specs.Prelude.{ℕ, Bool, true, ◌&&◌, nat_lt, if◌then◌else◌, List, [], ◌∷◌, Option, Some, None}
use Rattle.std.specs.List.{list_all}

module _ {T : Type 0} (number_of : T → ℕ) where
  -- a value put among others, before the first that has a higher number
  abbrev pub put_in : T → List T → List T
  put_in x [] = x ∷ []
  put_in x (y ∷ ys) = if nat_lt (number_of x) (number_of y) then x ∷ y ∷ ys else y ∷ put_in x ys

  -- the values of slots, in order of their numbers
  abbrev pub in_order : List (Option T) → List T
  in_order [] = []
  in_order (None ∷ slots) = in_order slots
  in_order (Some x ∷ slots) = put_in x (in_order slots)

  -- whether each number is below all that come behind it
  abbrev pub is_rising : List T → Bool
  is_rising [] = true
  is_rising (x ∷ xs) = list_all (λ y. nat_lt (number_of x) (number_of y)) xs && is_rising xs
