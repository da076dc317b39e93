-- A number has one numeral, however great others are that are written.
use Rattle.std.proofs.Common.{◌≡◌, ℕ, zero, suc, ◌+◌, ◌≤◌, ◌<◌, Bool, true, false, List, [], ◌∷◌}
use Rattle.std.proofs.Common.{length, decimal, refl, sym, ap, ◌∙◌, subst, arith}
use Rattle.std.specs.Prelude.{◌==◌, ◌/◌, ◌%◌, ◌^◌, nat_lt}
use Rattle.std.specs.Fmt.{digit_glyph, digits_onto, digits}
use Rattle.std.specs.Str.Parse.{digits_value}
use Rattle.std.proofs.lemmas.Bool.Decides.{nat_tests}
use Rattle.std.proofs.lemmas.Fmt.{decimal_is_IsNumeral, decimal_is_IsNumeral_wide, length-decimal-le}
use Rattle.base.specs.Number.{IsNumber}

is_more : (n : ℕ) → 0 < n → (n == 0) ≡ false
is_more n h = grind (arith, nat_tests)

power : (k : ℕ) → 0 < 10 ^ k
power zero = omega arith
power (suc k) = let before = power k in omega (arith, before)

-- of a number with more digits than that, so many are written
long : (k n : ℕ) (acc : List ℕ) → 10 ^ k ≤ n → length (digits_onto k 10 false n acc) ≡ k + length acc
long zero n acc h = omega arith
long (suc k) n acc h =
    rw (is_more (n / 10) (let some = power k in omega (arith, h, some)))
    (long k (n / 10) (digit_glyph false (n % 10) ∷ acc) (omega (arith, h)) ∙ omega arith)

all_digits : (n : ℕ) → 10 ^ 64 ≤ n → length (decimal n) ≡ 64
unfolding digits
all_digits n h = long 64 n [] h

-- so a numeral as short as that of the number of a letter is of no great number
short_is_small : (n : ℕ) (b : Bool) → nat_lt n (10 ^ 64) ≡ b → length (decimal n) ≤ 13 → n < 10 ^ 64
short_is_small n true is short = grind (arith, nat_tests, is)
short_is_small n false is short =
    let great : 10 ^ 64 ≤ n = grind (arith, nat_tests, is) in
    let all = all_digits n great in
    absurd (omega (arith, all, short))

pub one_number : (k n : ℕ) → IsNumber k → decimal k ≡ decimal n → n ≡ k
one_number k n is same =
    let fits = length-decimal-le 13 k (omega arith) (omega (arith, is.small)) (omega (arith, is.small)) in
    let short : length (decimal n) ≤ 13 = subst (λ ds. length ds ≤ 13) same fits in
    sym (decimal_is_IsNumeral_wide n (short_is_small n (nat_lt n (10 ^ 64)) refl short)).1
    ∙ (ap (digits_value 10) (sym same) ∙ (decimal_is_IsNumeral k (omega (arith, is.small))).1)
