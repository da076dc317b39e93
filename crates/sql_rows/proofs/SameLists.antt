-- Lists that are equal item by item.
use Rattle.std.proofs.Common.{◌≡◌, ℕ, suc, ◌<◌, List, [], ◌∷◌, length, slice_get, Some, refl, ap₂, arith}

head_is : {X : Type 0} {x y : X} → Some x ≡ Some y → x ≡ y
head_is e = cc

-- lists of one length with equal elements at each place are equal
pub same_lists : {X : Type 0} (xs ys : List X) → length xs ≡ length ys
    → ((k : ℕ) → k < length xs → slice_get xs k ≡ slice_get ys k) → xs ≡ ys
same_lists [] [] n at = refl
same_lists [] (y ∷ ys) n at = absurd (omega arith)
same_lists (x ∷ xs) [] n at = absurd (omega arith)
same_lists (x ∷ xs) (y ∷ ys) n at = ap₂ ◌∷◌ (head_is (at 0 (omega arith)))
    (same_lists xs ys (omega arith) (λ k low. at (suc k) (omega arith)))
