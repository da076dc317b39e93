-- Seats that are taken from the end of a list.
use Rattle.std.proofs.Common.{◌≡◌, ◌+◌, List, [], ◌∷◌, ◌++◌, length, sym, ap, ◌∙◌}
use Rattle.std.proofs.Common.{append-nil, append_assoc, length-append}
use Rattle.std.specs.List.{flat_map}
use Rattle.std.proofs.lemmas.Grind.{flat_map-append}

module _ {X : Type 0} (xs ys : List X) (y : X) (e : xs ≡ ys ++ y ∷ []) where
  pub left_count : length ys + 1 ≡ length xs
  left_count = sym (ap length e ∙ length-append ys (y ∷ []))

  pub left_lists : {A : Type 0} (f : X → List A) → flat_map f ys ++ f y ≡ flat_map f xs
  left_lists f =
      let last = ap (λ l. flat_map f ys ++ l) (append-nil (f y)) in
      sym (ap (flat_map f) e ∙ flat_map-append f ys (y ∷ []) ∙ last)

  -- what was taken before stands behind what is taken now
  pub takes_in : {A : Type 0} (f : X → List A) (a b all : List A) → flat_map f xs ++ a ≡ all → b ≡ f y ++ a
      → flat_map f ys ++ b ≡ all
  takes_in f a b all was is = ap (λ l. flat_map f ys ++ l) is
      ∙ sym (append_assoc (flat_map f ys) (f y) a) ∙ ap (λ l. l ++ a) (left_lists f) ∙ was
