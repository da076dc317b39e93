-- Rows whose steps can be exchanged make the same in any order.
use Rattle.std.proofs.Common.{◌≡◌, ℕ, zero, suc, ◌<◌, List, [], ◌∷◌, length, get_or, set, Option, Some, None, refl, sym}
use Rattle.std.proofs.Common.{ap, ◌∙◌, arith}
use Rattle.std.specs.List.{swap}
use Rattle.std.specs.List.Sorted.{IsPermutation}
use Rattle.std.specs.Option.{option_and_then}
use Rattle.std.proofs.lemmas.List.Sorted.{IsPermutation-keeps}
use Rattle.sql_bodies.specs.Steps.{steps}

then_then : {A B C : Type 0} (f : B → Option C) (g : A → Option B) (o : Option A)
    → option_and_then f (option_and_then g o) ≡ option_and_then (λ a. option_and_then f (g a)) o
then_then f g None = refl
then_then f g (Some a) = refl

under : {A B : Type 0} (f g : A → Option B) (o : Option A) → ((a : A) → f a ≡ g a)
    → option_and_then f o ≡ option_and_then g o
under f g None same = refl
under f g (Some a) same = same a

module _ {R S : Type 0} (step : R → S → Option S)
    (exchange : (r s : R) (made : S) → option_and_then (step s) (step r made)
    ≡ option_and_then (step r) (step s made)) where
  adjacent : (r s : R) (rows : List R) (made : S) → steps step (r ∷ s ∷ rows) made ≡ steps step (s ∷ r ∷ rows) made
  adjacent r s rows made = sym (then_then (steps step rows) (step s) (step r made))
      ∙ ap (option_and_then (steps step rows)) (exchange r s made)
      ∙ then_then (steps step rows) (step r) (step s made)

  -- the first row and another one change places
  front : (rows : List R) (j : ℕ) (r d : R) → j < length rows → (made : S)
      → steps step (get_or rows j d ∷ set rows j r) made ≡ steps step (r ∷ rows) made
  front [] j r d lt made = absurd (omega arith)
  front (s ∷ rows) zero r d lt made = adjacent s r rows made
  front (s ∷ rows) (suc j) r d lt made = adjacent (get_or rows j d) s (set rows j r) made
      ∙ under _ _ (step s made) (front rows j r d (omega arith))
      ∙ adjacent s r rows made

  -- two rows do
  two_exchanged : (rows : List R) (i j : ℕ) (d : R) → i < length rows → j < length rows → (made : S)
      → steps step (set (set rows i (get_or rows j d)) j (get_or rows i d)) made ≡ steps step rows made
  two_exchanged [] i j d p q made = absurd (omega arith)
  two_exchanged (r ∷ rows) zero zero d p q made = refl
  two_exchanged (r ∷ rows) zero (suc j) d p q made = front rows j r d (omega arith) made
  two_exchanged (r ∷ rows) (suc i) zero d p q made = front rows i r d (omega arith) made
  two_exchanged (r ∷ rows) (suc i) (suc j) d p q made =
      under _ _ (step r made) (two_exchanged rows i j d (omega arith) (omega arith))

  one_step : (xs : List R) (made : S) (zs : List R) (i j : ℕ) → i < length zs → j < length zs
      → steps step zs made ≡ steps step xs made → steps step (swap zs i j) made ≡ steps step xs made
  one_step xs made [] i j p q e = absurd (omega arith)
  one_step xs made (d ∷ zs) i j p q e = two_exchanged (d ∷ zs) i j d p q made ∙ e

  pub steps_shuffled : (xs ys : List R) (made : S) → IsPermutation xs ys → steps step ys made ≡ steps step xs made
  steps_shuffled xs ys made shuffled =
      IsPermutation-keeps xs (λ zs. steps step zs made ≡ steps step xs made) refl (one_step xs made) ys shuffled
