-- What stands at a place of lists that follow each other.
use Rattle.std.proofs.Common.{◌≡◌, ◌≢◌, ℕ, zero, suc, ◌+◌, ◌-◌, ◌<◌, ◌≤◌, List, [], ◌∷◌, ◌++◌, length, get_or, drop}
use Rattle.std.proofs.Common.{refl, sym, ap, ◌∙◌}
use Rattle.std.proofs.Common.{arith}
use Rattle.std.proofs.Common.{drop-cons, Some}
use Rattle.std.specs.Prelude.{slice_get}
use Rattle.std.proofs.lemmas.Option.{slice_get-get_or}
use Rattle.std.specs.List.{flat_map}
use Rattle.schedule_mail.specs.Accepted.{at_place}

-- a place counts from 1
pub place_at : {A : Type 0} (place : ℕ) (xs : List A) → place ≢ 0 → at_place place xs ≡ slice_get xs (place - 1)
place_at zero xs h = absurd (h refl)
place_at (suc index) xs h = ap (slice_get xs) (omega arith)

get_in : {A : Type 0} (a b : List A) (i : ℕ) → i < length a → slice_get (a ++ b) i ≡ slice_get a i
get_in [] b i h = absurd (omega (arith, h))
get_in (x ∷ a) b zero h = refl
get_in (x ∷ a) b (suc i) h = get_in a b i (omega arith)

get_past : {A : Type 0} (a b : List A) (i : ℕ) → length a ≤ i → slice_get (a ++ b) i ≡ slice_get b (i - length a)
get_past [] b i h = ap (slice_get b) (omega arith)
get_past (x ∷ a) b zero h = absurd (omega (arith, h))
get_past (x ∷ a) b (suc i) h = get_past a b i (omega arith) ∙ ap (slice_get b) (omega arith)

module _ {X A : Type 0} (f : X → List A) (xs : List X) (j i n : ℕ) (x : X) (within : j < length xs)
    (is : x ≡ get_or xs j x)
    (long : n ≡ length (f x)) where
  parted : flat_map f (drop j xs) ≡ f x ++ flat_map f (drop (suc j) xs)
  parted = ap (flat_map f) (drop-cons xs j x within) ∙ ap (λ y. f y ++ flat_map f (drop (suc j) xs)) (sym is)

  -- in the next list
  pub place_in : (y : A) → i < n → y ≡ get_or (f x) i y → slice_get (flat_map f (drop j xs)) i ≡ Some y
  place_in y h e =
      let k : i < length (f x) = omega (arith, h, long) in
      ap (λ text. slice_get text i) parted ∙ get_in (f x) (flat_map f (drop (suc j) xs)) i k
      ∙ slice_get-get_or (f x) i y k
      ∙ ap Some (sym e)

  -- behind it
  pub place_past : n ≤ i → slice_get (flat_map f (drop j xs)) i ≡ slice_get (flat_map f (drop (j + 1) xs)) (i - n)
  place_past h =
      let k : length (f x) ≤ i = omega (arith, h, long) in
      let e : suc j ≡ j + 1 = omega arith in
      ap (λ text. slice_get text i) parted ∙ get_past (f x) (flat_map f (drop (suc j) xs)) i k
      ∙ ap (λ m. slice_get (flat_map f (drop m xs)) (i - length (f x))) e
      ∙ ap (λ m. slice_get (flat_map f (drop (j + 1) xs)) (i - m)) (sym long)
