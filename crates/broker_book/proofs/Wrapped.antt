-- Sums that are counted modulo 2^64.
use Rattle.std.proofs.Common.{◌≡◌, ◌<◌, ◌≤◌, ◌+◌, ◌-◌, ◌*◌, ◌/◌, ◌%◌, ◌^◌, ℕ, List, [], ◌∷◌, ◌++◌, sym, ap, ◌∙◌}
use Rattle.std.proofs.Common.{arith}
use Rattle.std.specs.List.{sum_by}
use Rattle.std.proofs.lemmas.List.Sums.{sum_by_push}
use Rattle.std.proofs.Math.Nat.{add-mod-mod, add-mul-mod_self_left, div-add-mod, mod-add-mod, mul-add}

-- a part more
pub wrapped_more : (a b : ℕ) → (a % 2 ^ 64 + b % 2 ^ 64) % 2 ^ 64 ≡ (a + b) % 2 ^ 64
wrapped_more a b = mod-add-mod a (2 ^ 64) (b % 2 ^ 64) ∙ add-mod-mod a b (2 ^ 64)

-- a sum of one more
pub wrapped_push : {X : Type 0} (weight : X → ℕ) (xs : List X) (x : X) (octets more : ℕ)
    → octets ≡ sum_by weight xs % 2 ^ 64 → more ≡ weight x % 2 ^ 64
    → (octets + more) % 2 ^ 64 ≡ sum_by weight (xs ++ x ∷ []) % 2 ^ 64
wrapped_push weight xs x octets more counted is =
    ap (λ (n : ℕ). (n + more) % 2 ^ 64) counted ∙ ap (λ (n : ℕ). (sum_by weight xs % 2 ^ 64 + n) % 2 ^ 64) is
    ∙ wrapped_more (sum_by weight xs) (weight x) ∙ ap (λ (n : ℕ). n % 2 ^ 64) (sym (sum_by_push weight xs x))

-- a part fewer, as what it lacks to the next multiple more
pub wrapped_less : (m a b : ℕ) → 0 < m → ((a + b) % m + (m - b % m)) % m ≡ a % m
wrapped_less m a b some =
    let short : b % m ≤ m = omega arith in
    let split = div-add-mod b m in
    let one = mul-add m (b / m) 1 in
    let whole : (a + b) + (m - b % m) ≡ a + m * (b / m + 1) = omega (arith, split, one) in
    mod-add-mod (a + b) m (m - b % m) ∙ ap (λ x. x % m) whole ∙ add-mul-mod_self_left a m (b / m + 1)
