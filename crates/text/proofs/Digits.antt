-- A number is read exactly where its decimal digits are written.
use Rattle.std.proofs.Common.{◌≡◌, ℕ, zero, suc, ◌<◌, ◌^◌, List, [], ◌∷◌, length, get_or, Bool, true, false, ◌&&◌, not}
use Rattle.std.proofs.Common.{cond, eqb, ltb}
use Rattle.std.proofs.Common.{refl, sym, ap, ◌∙◌, arith, rules, Some, None, Result, Ok, Err, inl, inr, decimal}
use Rattle.std.specs.List.{list_all}
use Rattle.std.specs.Char.{is_ascii_digit}
use Rattle.std.specs.Result.{OkIff, result_ok}
use Rattle.std.specs.Str.Parse.{digits_value, ParsesUnsigned}
use Rattle.std.proofs.lemmas.Bool.{cases_Bool, eqb-false, ltb-true, lt-ltb, ne_eqb}
use Rattle.std.proofs.lemmas.Option.{cond_some}
use Rattle.std.proofs.lemmas.Str.Parse.{IsNumeralModel, IsDigitsTest, numerals_by_value, parse_digits}
use Rattle.std.proofs.lemmas.Fmt.{digits_decimal, digits_value-decimal, decimal_nonempty, first_decimal, decimal_digit}
use Rattle.std.proofs.lemmas.Fmt.{decimal-digits_value}
use Rattle.text.specs.Numerals.{are_digits, digits_number, has_leading_zero, number_of}

tells : IsDigitsTest (λ ds. list_all is_ascii_digit ds ≡ true)
tells = search rules

own : IsNumeralModel (λ ds. list_all is_ascii_digit ds ≡ true) (digits_value 10)
own = numerals_by_value _ tells

pub both_true : (a b : Bool) → (a && b) ≡ true → (a ≡ true) × (b ≡ true)
both_true true b e = (refl, e)
both_true false b e = absurd cc

-- ---- what `parse` gives

parsed_is : {E : Type 0} (text : List ℕ) (r : Result ℕ E)
    → OkIff r ((0 < length text) × (digits_value 10 text < 2 ^ 64)) (digits_value 10 text) → 0 < length text
    → result_ok r ≡ cond (ltb (digits_value 10 text) (2 ^ 64)) (Some (digits_value 10 text)) None
parsed_is text (Ok n) h some = rw (lt-ltb (digits_value 10 text) (2 ^ 64) h.0.1, h.1) refl
parsed_is text (Err e) h some =
    elim (cases_Bool (ltb (digits_value 10 text) (2 ^ 64))) [
      | inl small ↦ absurd (h (some, ltb-true _ _ small))
      | inr large ↦ rw large refl
    ]

-- of digits
pub parsed : {E : Type 0} (text : List ℕ) (r : Result ℕ E) → ParsesUnsigned 64 10 text r → are_digits text ≡ true
    → result_ok r ≡ digits_number text
parsed text r h digits =
    let parts = both_true _ _ digits in
    let some : 0 < length text = grind (arith, parts.1) in
    parsed_is text r (parse_digits own 64 text r h parts.0) some
    ∙ sym (ap (λ b. cond (b && ltb (digits_value 10 text) (2 ^ 64)) (Some (digits_value 10 text)) None) digits)

-- ---- with and without leading zeros

none_leads : (digits lead small : Bool) (n : ℕ) → lead ≡ true → None ≡ cond (digits && not lead && small) (Some n) None
none_leads true true small n e = refl
none_leads false true small n e = refl
none_leads digits false small n e = absurd cc

pub number_leading : (text : List ℕ) → has_leading_zero text ≡ true → None ≡ number_of text
number_leading text e =
    none_leads (are_digits text) (has_leading_zero text) (ltb (digits_value 10 text) (2 ^ 64)) (digits_value 10 text) e

some_leads : (digits lead small : Bool) (n : ℕ) → lead ≡ false
    → cond (digits && small) (Some n) None ≡ cond (digits && not lead && small) (Some n) None
some_leads true false small n e = refl
some_leads false false small n e = refl
some_leads digits true small n e = absurd cc

pub number_plain : (text : List ℕ) → has_leading_zero text ≡ false → digits_number text ≡ number_of text
number_plain text e =
    some_leads (are_digits text) (has_leading_zero text) (ltb (digits_value 10 text) (2 ^ 64)) (digits_value 10 text) e

-- ---- what is written is read

-- a number's digits have no leading zero
leads : (n : ℕ) → n < 2 ^ 64 → has_leading_zero (decimal n) ≡ false
leads zero small = rw (decimal_digit 0 (omega arith)) refl
leads (suc n) small =
    let first : 48 < get_or (decimal (suc n)) 0 0 = first_decimal (suc n) (omega arith) small in
    both_false _ _ (eqb_above _ first)
  where
    both_false : (a b : Bool) → b ≡ false → (a && b) ≡ false
    both_false true b e = e
    both_false false b e = refl

    eqb_above : (x : ℕ) → 48 < x → eqb x 48 ≡ false
    eqb_above x above = ne_eqb x 48 (λ same. omega arith)

pub number_read : (n : ℕ) → n < 2 ^ 64 → number_of (decimal n) ≡ Some n
number_read n small =
    let digits = digits_decimal own n small in
    let some : eqb (length (decimal n)) 0 ≡ false = ne_eqb _ _ (λ none. omega (arith, decimal_nonempty n small)) in
    let value = digits_value-decimal own n small in
    let fits : ltb (digits_value 10 (decimal n)) (2 ^ 64) ≡ true = lt-ltb _ _ (rw value small) in
    rw (digits, some, leads n small, fits) (ap Some value)

pub number_only : (text : List ℕ) (n : ℕ) → number_of text ≡ Some n → decimal n ≡ text
number_only text n read =
    let found = cond_some _ _ _ read in
    let fits = both_true _ _ found.0 in
    let outer = both_true _ _ fits.0 in
    let inner = both_true _ _ outer.0 in
    let small : digits_value 10 text < 2 ^ 64 = ltb-true _ _ fits.1 in
    let some : 0 < length text = grind (arith, inner.1) in
    rw (← found.1) (decimal-digits_value own text inner.0 some (alone text some (of_not _ outer.1)) small)
  where
    second_false : (a b : Bool) → a ≡ true → (a && b) ≡ false → b ≡ false
    second_false true b is both = both
    second_false false b is both = absurd cc

    of_not : (b : Bool) → not b ≡ true → b ≡ false
    of_not true e = cc
    of_not false e = refl

    alone : (text : List ℕ) → 0 < length text → has_leading_zero text ≡ false → get_or text 0 0 ≡ 48 → length text ≡ 1
    alone (o ∷ []) some no_lead zero_first = refl
    alone (o ∷ p ∷ os) some no_lead zero_first =
        let long : ltb 1 (length (o ∷ p ∷ os)) ≡ true = lt-ltb 1 (length (o ∷ p ∷ os)) (omega arith) in
        let other : eqb o 48 ≡ false = second_false _ _ long no_lead in
        absurd (eqb-false o 48 other zero_first)
    alone [] some no_lead zero_first = absurd (omega arith)

-- and it is below 2^64
pub number_small : (text : List ℕ) (n : ℕ) → number_of text ≡ Some n → n < 2 ^ 64
number_small text n read =
    let found = cond_some _ _ _ read in
    rw (← found.1) (ltb-true _ _ (both_true _ _ found.0).1)
