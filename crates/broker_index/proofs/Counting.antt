-- What messages are counted as, and how many are out: where one comes, goes or changes.
use Rattle.std.proofs.Common.{◌≡◌, ◌+◌, ◌-◌, ◌%◌, ◌^◌, ◌<◌, ℕ, true, false, not, ltb, List, [], ◌∷◌, map, filter}
use Rattle.std.proofs.Common.{Option, Some, None, refl, sym, ap, ◌∙◌, inl, inr, arith}
use Rattle.std.specs.Prelude.{◌==◌, if◌then◌else◌}
use Rattle.std.specs.List.{find, list_all, sum_by}
use Rattle.std.proofs.lemmas.Bool.{cases_Bool, and_parts, eqb-true, ltb-true, ne_eqb}
use Rattle.std.proofs.lemmas.List.Sums.{sum_by-cons}
use Rattle.std.proofs.Math.Nat.{mod-add-mod, mod-eq_of_lt}
use Rattle.std.proofs.lemmas.Nat.{pow_pos}
use Rattle.broker_book.proofs.Wrapped.{wrapped_less}
use Rattle.broker_book.specs.Books.{Fate, Ready, Out}
use Rattle.broker_book.specs.Sizes.{sent_octets}
use Rattle.broker_index.specs.Held.{found_weight, kept_octets, kept_out, out_weight}
use Rattle.broker_index.specs.Index.{Kept, has_number, with_fate}
use Rattle.broker_index.specs.Slots.{is_rising}

module _ {T : Type 0} (number_of : T → ℕ) (weight : T → ℕ) where
  -- where none has a number, none is taken out
  sum_absent : (n : ℕ) (xs : List T) → find (λ x. number_of x == n) xs ≡ None
      → sum_by weight (filter (λ x. not (number_of x == n)) xs) ≡ sum_by weight xs
  sum_absent n [] none = refl
  sum_absent n (x ∷ xs) none = elim (cases_Bool (number_of x == n)) [
    | inl on ↦ let no : Some x ≡ None = rw on at none in cc
    | inr off ↦ rw off (omega (
      arith,
      sum_by-cons weight x (filter (λ x. not (number_of x == n)) xs),
      sum_by-cons weight x xs,
      sum_absent n xs (rw off at none),
    ))
  ]

  none_above : (n : ℕ) (xs : List T) → list_all (λ y. ltb n (number_of y)) xs ≡ true
      → find (λ x. number_of x == n) xs ≡ None
  none_above n [] above = refl
  none_above n (x ∷ xs) above =
      let parts = and_parts (ltb n (number_of x)) (list_all (λ y. ltb n (number_of y)) xs) above in
      let high : n < number_of x = ltb-true n (number_of x) parts.0 in
      let other : (number_of x == n) ≡ false = ne_eqb (number_of x) n (λ same. omega arith) in
      rw other (none_above n xs parts.1)

  -- one is taken out
  sum_found : (n : ℕ) (xs : List T) (y : T) → is_rising number_of xs ≡ true → find (λ x. number_of x == n) xs ≡ Some y
      → sum_by weight (filter (λ x. not (number_of x == n)) xs) + weight y ≡ sum_by weight xs
  sum_found n [] y rising found = let no : None ≡ Some y = found in cc
  sum_found n (x ∷ xs) y rising found =
      let parts = and_parts (list_all (λ z. ltb (number_of x) (number_of z)) xs) (is_rising number_of xs) rising in
      elim (cases_Bool (number_of x == n)) [
        | inl on ↦
            let is : number_of x ≡ n = eqb-true (number_of x) n on in
            let same : Some x ≡ Some y = rw on at found in
            let e : x ≡ y = cc in
            let above : list_all (λ z. ltb n (number_of z)) xs ≡ true =
            ap (λ m. list_all (λ z. ltb m (number_of z)) xs) (sym is) ∙ parts.0 in
            rw on (omega (arith, sum_absent n xs (none_above n xs above), sum_by-cons weight x xs, ap weight e))
        | inr off ↦ rw off (omega (
          arith,
          sum_by-cons weight x (filter (λ x. not (number_of x == n)) xs),
          sum_by-cons weight x xs,
          sum_found n xs y parts.1 (rw off at found),
        ))
      ]

  -- a change that keeps what each is counted as
  sum_same : (change : T → T) → ((x : T) → weight (change x) ≡ weight x) → (xs : List T)
      → sum_by weight (map change xs) ≡ sum_by weight xs
  sum_same change keeps [] = refl
  sum_same change keeps (x ∷ xs) = omega (
    arith,
    sum_by-cons weight (change x) (map change xs),
    sum_by-cons weight x xs,
    keeps x,
    sum_same change keeps xs,
  )

  -- where none has a number, none changes
  sum_unchanged : (n : ℕ) (change : T → T) (xs : List T) → find (λ x. number_of x == n) xs ≡ None
      → sum_by weight (map (λ x. if number_of x == n then change x else x) xs) ≡ sum_by weight xs
  sum_unchanged n change [] none = refl
  sum_unchanged n change (x ∷ xs) none = elim (cases_Bool (number_of x == n)) [
    | inl on ↦ let no : Some x ≡ None = rw on at none in cc
    | inr off ↦
        let same : (if number_of x == n then change x else x) ≡ x = rw off refl in
        omega (
          arith,
          sum_by-cons weight (if number_of x == n then change x else x)
              (map (λ x. if number_of x == n then change x else x) xs),
          ap weight same,
          sum_by-cons weight x xs,
          sum_unchanged n change xs (rw off at none),
        )
  ]

  -- one changes
  sum_changed : (n : ℕ) (change : T → T) (xs : List T) (y : T) → is_rising number_of xs ≡ true
      → find (λ x. number_of x == n) xs ≡ Some y
      → sum_by weight (map (λ x. if number_of x == n then change x else x) xs) + weight y
      ≡ sum_by weight xs + weight (change y)
  sum_changed n change [] y rising found = let no : None ≡ Some y = found in cc
  sum_changed n change (x ∷ xs) y rising found =
      let parts = and_parts (list_all (λ z. ltb (number_of x) (number_of z)) xs) (is_rising number_of xs) rising in
      let front = sum_by-cons weight (if number_of x == n then change x else x)
      (map (λ x. if number_of x == n then change x else x) xs) in
      let old = sum_by-cons weight x xs in
      elim (cases_Bool (number_of x == n)) [
        | inl on ↦
            let is : number_of x ≡ n = eqb-true (number_of x) n on in
            let same : Some x ≡ Some y = rw on at found in
            let e : x ≡ y = cc in
            let above : list_all (λ z. ltb n (number_of z)) xs ≡ true =
            ap (λ m. list_all (λ z. ltb m (number_of z)) xs) (sym is) ∙ parts.0 in
            let turned : (if number_of x == n then change x else x) ≡ change x = rw on refl in
            omega (
              arith,
              front,
              ap weight turned,
              ap (λ z. weight (change z)) e,
              sum_unchanged n change xs (none_above n xs above),
              old,
              ap weight e,
            )
        | inr off ↦
            let same : (if number_of x == n then change x else x) ≡ x = rw off refl in
            omega (arith, front, ap weight same, old, sum_changed n change xs y parts.1 (rw off at found))
      ]

-- what a kept message is counted as
abbrev octets_of : Kept → ℕ
octets_of k = sent_octets k.sent

same_octets : (n : ℕ) (fate : Option Fate) (k : Kept) → octets_of (with_fate n fate k) ≡ octets_of k
same_octets n fate k = elim (cases_Bool (k.number == n)) [ inl on ↦ rw on refl | inr off ↦ rw off refl ]

-- another fate changes nothing
pub held_set : (n : ℕ) (fate : Option Fate) (kept : List Kept)
    → kept_octets (map (with_fate n fate) kept) ≡ kept_octets kept
held_set n fate kept = sum_same (λ (k : Kept). k.number) octets_of (with_fate n fate) (same_octets n fate) kept

module _ (weight : Kept → ℕ) (n : ℕ) (kept : List Kept) where
  -- the messages but the one of a number, and that one, if there is one
  sum_parts : is_rising (λ (k : Kept). k.number) kept ≡ true
      → sum_by weight (filter (λ k. not (k.number == n)) kept) + found_weight weight (find (has_number n) kept)
      ≡ sum_by weight kept
  sum_parts rising = by_found (find (has_number n) kept) refl
    where
      by_found : (o : Option Kept) → find (has_number n) kept ≡ o
          → sum_by weight (filter (λ k. not (k.number == n)) kept) + found_weight weight o ≡ sum_by weight kept
      by_found None none = omega (arith, sum_absent (λ (k : Kept). k.number) weight n kept none)
      by_found (Some k) found = sum_found (λ (k : Kept). k.number) weight n kept k rising found

  -- a message fewer
  pub held_remove : (sum fewer : ℕ) → is_rising (λ (k : Kept). k.number) kept ≡ true
      → sum ≡ sum_by weight kept % 2 ^ 64 → fewer ≡ found_weight weight (find (has_number n) kept) % 2 ^ 64
      → (sum + (2 ^ 64 - fewer)) % 2 ^ 64 ≡ sum_by weight (filter (λ k. not (k.number == n)) kept) % 2 ^ 64
  held_remove sum fewer rising counted is =
      let one = found_weight weight (find (has_number n) kept) in
      let rest = sum_by weight (filter (λ (k : Kept). not (k.number == n)) kept) in
      let parts : sum ≡ (rest + one) % 2 ^ 64 = counted ∙ ap (λ (x : ℕ). x % 2 ^ 64) (sym (sum_parts rising)) in
      ap (λ (x : ℕ). (x + (2 ^ 64 - fewer)) % 2 ^ 64) parts
      ∙ ap (λ (x : ℕ). ((rest + one) % 2 ^ 64 + (2 ^ 64 - x)) % 2 ^ 64) is
      ∙ wrapped_less (2 ^ 64) rest one (pow_pos 64)

-- ---- how many are out

out_small : (f : Option Fate) → out_weight f % 2 ^ 64 ≡ out_weight f
out_small None = mod-eq_of_lt {m = 2 ^ 64} (omega arith)
out_small (Some Ready) = mod-eq_of_lt {m = 2 ^ 64} (omega arith)
out_small (Some (Out session id number)) = mod-eq_of_lt {m = 2 ^ 64} (omega arith)

-- the one that is found counts less than 2^64
pub out_one : (o : Option Kept) → found_weight (λ k. out_weight k.fate) o % 2 ^ 64
    ≡ found_weight (λ k. out_weight k.fate) o
out_one None = mod-eq_of_lt {m = 2 ^ 64} (omega arith)
out_one (Some k) = out_small k.fate

-- a message of another fate
pub out_set : (n : ℕ) (fate : Option Fate) (kept : List Kept) (k : Kept) (out : ℕ)
    → is_rising (λ (l : Kept). l.number) kept ≡ true → find (has_number n) kept ≡ Some k
    → out ≡ kept_out kept % 2 ^ 64
    → ((out + out_weight fate) % 2 ^ 64 + (2 ^ 64 - out_weight k.fate)) % 2 ^ 64
    ≡ kept_out (map (with_fate n fate) kept) % 2 ^ 64
out_set n fate kept k out rising found counted =
    let after = kept_out (map (with_fate n fate) kept) in
    let changed : after + out_weight k.fate ≡ kept_out kept + out_weight fate =
    sum_changed (λ (l : Kept). l.number) (λ l. out_weight l.fate) n (λ l. record l { fate = fate }) kept k rising
    found in
    let sum : (out + out_weight fate) % 2 ^ 64 ≡ (after + out_weight k.fate) % 2 ^ 64 =
    ap (λ (x : ℕ). (x + out_weight fate) % 2 ^ 64) counted
    ∙ mod-add-mod (kept_out kept) (2 ^ 64) (out_weight fate)
    ∙ ap (λ (x : ℕ). x % 2 ^ 64) (sym changed) in
    ap (λ (x : ℕ). (x + (2 ^ 64 - out_weight k.fate)) % 2 ^ 64) sum
    ∙ ap (λ (x : ℕ). ((after + out_weight k.fate) % 2 ^ 64 + (2 ^ 64 - x)) % 2 ^ 64) (sym (out_small k.fate))
    ∙ wrapped_less (2 ^ 64) after (out_weight k.fate) (pow_pos 64)
