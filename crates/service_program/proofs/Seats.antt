-- Seats of which the first was used.
use Rattle.std.proofs.Common.{ℕ, zero, suc, ◌<◌, List, [], ◌∷◌, length, get_or, set}

-- what holds of each element at its place, and of a new first one at its place, holds of each where that is put
pub behind_first : {A : Type 0} (P : A → ℕ → Type 0) (xs : List A) (x : A) → P x 0
    → ((i : ℕ) (d : A) → i < length xs → P (get_or xs i d) i)
    → (i : ℕ) (d : A) → i < length (set xs 0 x) → P (get_or (set xs 0 x) i d) i
behind_first P [] x new all i d lt = all i d lt
behind_first P (y ∷ xs) x new all zero d lt = new
behind_first P (y ∷ xs) x new all (suc i) d lt = all (suc i) d lt
