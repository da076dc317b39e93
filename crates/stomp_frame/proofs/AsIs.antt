-- Texts of which many octets are tested at once for an escape.
use Rattle.std.proofs.Common.{◌≡◌, inl, inr, ℕ, zero, suc, ◌+◌, ◌-◌, ◌*◌, ◌≤◌, ◌%◌, ◌^◌, Bool, true, false, cond, eqb}
use Rattle.std.proofs.Common.{not, ◌&&◌, ◌||◌, List, [], ◌∷◌, ◌++◌, Some, None}
use Rattle.std.proofs.Common.{length, map, take, drop, replicate, bit_or, refl, sym, ap, ap₂, ◌∙◌, append_assoc, arith}
use Rattle.std.specs.Prelude.{is_none}
use Rattle.std.specs.List.{list_all, range_with_len}
use Rattle.std.specs.Simd.Lanes.{zip2, mask_l, top, chunk, pick_l}
use Rattle.std.proofs.lemmas.Simd.{zip2_splat, mask_l-mod, length-chunk, chunk-drop, pick_l_whole}
use Rattle.std.proofs.lemmas.List.{length-append, length-drop, length-map, length-take-le, take_all, take_at}
use Rattle.std.proofs.lemmas.List.{take-append-drop}
use Rattle.std.proofs.lemmas.List.Folds.{list_all-append}
use Rattle.std.proofs.lemmas.Bool.{ne_eqb}
use Rattle.stomp_frame.specs.Frames.{letter_of}
use Rattle.stomp_frame.specs.Inner.Writing.{is_as_is}
use Rattle.stomp_frame.proofs.Scans.{either}

-- ---- in a vector

-- lanes that are all ones where an octet passes a test
abbrev marked : (ℕ → Bool) → List ℕ → List ℕ
marked p xs = map (λ x. cond (p x) 255 0) xs

or_one : (a b : Bool) → bit_or (cond a 255 0) (cond b 255 0) ≡ cond (a || b) 255 0
or_one true true = refl
or_one true false = refl
or_one false true = refl
or_one false false = refl

or_marked : (p q : ℕ → Bool) (xs : List ℕ) → zip2 bit_or (marked p xs) (marked q xs) ≡ marked (λ x. p x || q x) xs
or_marked p q [] = refl
or_marked p q (x ∷ xs) = rw (or_one (p x) (q x), or_marked p q xs) refl

top_one : (a : Bool) → top 7 (cond a 255 0) ≡ a
top_one true = refl
top_one false = refl

tops_marked : (p : ℕ → Bool) (xs : List ℕ) → map (top 7) (marked p xs) ≡ map p xs
tops_marked p [] = refl
tops_marked p (x ∷ xs) = rw (top_one (p x), tops_marked p xs) refl

doubled : (m : ℕ) → eqb (2 * m) 0 ≡ eqb m 0
doubled zero = refl
doubled (suc m) = ne_eqb (2 * suc m) 0 (λ e. omega (arith, e)) ∙ sym (ne_eqb (suc m) 0 (λ e. omega (arith, e)))

-- no bit is set where no octet passes
none_marked : (p : ℕ → Bool) (xs : List ℕ) → eqb (mask_l (map p xs)) 0 ≡ list_all (λ x. not (p x)) xs
none_marked p [] = refl
none_marked p (x ∷ xs) = elim (either (p x)) [
  | inl t ↦ rw t (ne_eqb (1 + 2 * mask_l (map p xs)) 0 (λ e. omega (arith, e)))
  | inr f ↦ let z : 0 + 2 * mask_l (map p xs) ≡ 2 * mask_l (map p xs) = omega arith in
      rw (f, z) (doubled (mask_l (map p xs)) ∙ none_marked p xs)
]

-- the four octets that have an escape
abbrev has_escape : ℕ → Bool
has_escape x = ((eqb x 13 || eqb x 10) || eqb x 58) || eqb x 92

letter : (a b c d : Bool) → not (((a || b) || c) || d)
    ≡ is_none {T = ℕ} (cond a (Some 114) (cond b (Some 110) (cond c (Some 99) (cond d (Some 92) None))))
letter true b c d = refl
letter false true c d = refl
letter false false true d = refl
letter false false false true = refl
letter false false false false = refl

none_is : (xs : List ℕ) → list_all (λ x. not (has_escape x)) xs ≡ is_as_is xs
none_is [] = refl
none_is (x ∷ xs) = ap₂ (λ a b. a && b) (letter (eqb x 13) (eqb x 10) (eqb x 58) (eqb x 92)) (none_is xs)

-- the octets of a vector that are another
abbrev equal : List ℕ → ℕ → ℕ → List ℕ
equal xs n y = zip2 (λ a b. cond (eqb a b) 255 0) xs (replicate n y)

abbrev masked : List ℕ → ℕ → List ℕ
masked xs n = zip2 bit_or (zip2 bit_or (zip2 bit_or (equal xs n 13) (equal xs n 10)) (equal xs n 58)) (equal xs n 92)

masked_is : (xs : List ℕ) (n : ℕ) → length xs ≡ n → masked xs n ≡ marked has_escape xs
masked_is xs n long =
    let is : (y : ℕ) → equal xs n y ≡ marked (λ x. eqb x y) xs =
    λ y. zip2_splat (λ a b. cond (eqb a b) 255 0) xs n y long in
    ap₂ (zip2 bit_or) (ap₂ (zip2 bit_or) (ap₂ (zip2 bit_or) (is 13) (is 10) ∙ or_marked _ _ xs) (is 58)
    ∙ or_marked _ _ xs) (is 92)
    ∙ or_marked _ _ xs

-- the comparison of a whole vector says whether one of its octets has an escape
pub vector_is : (xs : List ℕ) (n : ℕ) → length xs ≡ n → n ≤ 64
    → eqb (mask_l (map (top 7) (masked xs n)) % 2 ^ 64) 0 ≡ is_as_is xs
vector_is xs n long few =
    ap (λ ms. eqb (mask_l ms % 2 ^ 64) 0) (ap (map (top 7)) (masked_is xs n long) ∙ tops_marked has_escape xs)
    ∙ ap (λ m. eqb m 0) (mask_l-mod (map has_escape xs) 64 (omega (arith, length-map xs has_escape, long, few)))
    ∙ none_marked has_escape xs
    ∙ none_is xs

-- ---- in a text that is longer than a vector

-- the last octets, as they are loaded
pub last_are : (xs : List ℕ) (n : ℕ) → chunk (length xs - n) n xs ≡ drop (length xs - n) xs
last_are xs n = take_all n (drop (length xs - n) xs) (omega (arith, length-drop (length xs - n) xs))

-- the first and the last, as one vector
pub ends_are : (xs : List ℕ) (n m : ℕ) → n ≤ length xs → m ≡ n + n
    → pick_l 0 (take n xs ++ chunk (length xs - n) n xs) (range_with_len 0 m)
    ≡ take n xs ++ drop (length xs - n) xs
ends_are xs n m le twice =
    let long : length (take n xs ++ chunk (length xs - n) n xs) ≡ m = omega (
      arith,
      twice,
      length-append (take n xs) (chunk (length xs - n) n xs),
      length-take-le n xs le,
      length-chunk (length xs - n) n xs (omega (arith, le)),
    ) in
    pick_l_whole 0 (take n xs ++ chunk (length xs - n) n xs) m long ∙ ap (λ x. take n xs ++ x) (last_are xs n)

-- whether an octet has no escape
abbrev stays : ℕ → Bool
stays o = is_none (letter_of o)

front_holds : (p : ℕ → Bool) (xs : List ℕ) (n : ℕ) → (list_all p (take n xs) && list_all p xs) ≡ list_all p xs
front_holds p xs zero = refl
front_holds p [] (suc n) = refl
front_holds p (x ∷ xs) (suc n) = both (p x) (list_all p (take n xs)) (list_all p xs) (front_holds p xs n)
  where
    both : (a b c : Bool) → (b && c) ≡ c → ((a && b) && (a && c)) ≡ (a && c)
    both true b c e = e
    both false b c e = refl

-- two parts that overlap
overlap : (p : ℕ → Bool) (xs : List ℕ) (n m : ℕ) → m ≤ n
    → (list_all p (take n xs) && list_all p (drop m xs)) ≡ list_all p xs
overlap p xs n zero le = front_holds p xs n
overlap p [] zero (suc m) le = refl
overlap p [] (suc n) (suc m) le = refl
overlap p (x ∷ xs) zero (suc m) le = absurd (omega (arith, le))
overlap p (x ∷ xs) (suc n) (suc m) le =
    more (p x) (list_all p (take n xs)) (list_all p (drop m xs)) (list_all p xs) (overlap p xs n m (omega (arith, le)))
  where
    more : (a b c d : Bool) → (b && c) ≡ d → ((a && b) && c) ≡ (a && d)
    more true b c d e = e
    more false b c d e = refl

-- the first octets and the last, which overlap, say it of the whole text
pub ends_tell : (xs : List ℕ) (n : ℕ) → length xs ≤ n + n
    → is_as_is (take n xs ++ drop (length xs - n) xs) ≡ is_as_is xs
ends_tell xs n few =
    list_all-append stays (take n xs) (drop (length xs - n) xs)
    ∙ overlap stays xs n (length xs - n) (omega (arith, few))

-- where all before is as it is, the last octets tell
pub last_tell : (xs : List ℕ) (at n : ℕ) → is_as_is (take at xs) ≡ true → length xs - at ≤ n
    → is_as_is (chunk (length xs - n) n xs) ≡ is_as_is xs
last_tell xs at n before few =
    let m = length xs - n in
    ap is_as_is (last_are xs n) ∙ ap (λ b. b && is_as_is (drop m xs)) (sym before)
    ∙ overlap stays xs at m (omega (arith, few))

window : (xs : List ℕ) (at n : ℕ)
    → is_as_is (drop at xs) ≡ (is_as_is (chunk at n xs) && is_as_is (drop (at + n) xs))
window xs at n =
    ap is_as_is (chunk-drop at n xs) ∙ list_all-append stays (chunk at n xs) (drop (at + n) xs)

-- an escape in the window is one of the text
pub found : (xs : List ℕ) (at n : ℕ) → is_as_is (chunk at n xs) ≡ false → is_as_is xs ≡ false
found xs at n e =
    ap is_as_is (sym (take-append-drop at xs)) ∙ list_all-append stays (take at xs) (drop at xs)
    ∙ ap (λ b. is_as_is (take at xs) && b) (window xs at n ∙ ap (λ b. b && is_as_is (drop (at + n) xs)) e)
    ∙ nothing (is_as_is (take at xs))
  where
    nothing : (b : Bool) → (b && false) ≡ false
    nothing true = refl
    nothing false = refl

-- one more window without an escape
pub goes_on : (xs : List ℕ) (at n : ℕ) → at + n ≤ length xs → is_as_is (take at xs) ≡ true
    → is_as_is (chunk at n xs) ≡ true → is_as_is (take (at + n) xs) ≡ true
goes_on xs at n le before e =
    let front = take at xs ++ chunk at n xs in
    let whole : front ++ drop (at + n) xs ≡ xs = append_assoc (take at xs) (chunk at n xs) (drop (at + n) xs)
    ∙ ap (λ x. take at xs ++ x) (sym (chunk-drop at n xs))
    ∙ take-append-drop at xs in
    let long : length front ≡ at + n = omega (
      arith,
      length-append (take at xs) (chunk at n xs),
      length-take-le at xs (omega (arith, le)),
      length-chunk at n xs le,
    ) in
    ap (λ x. is_as_is (take (at + n) x)) (sym whole) ∙ ap is_as_is (take_at front (drop (at + n) xs) (at + n) long)
    ∙ list_all-append stays (take at xs) (chunk at n xs)
    ∙ ap₂ (λ a b. a && b) before e
