-- Counts of lists that are filtered, appended to or mapped.
use Rattle.std.proofs.Common.{◌≡◌, ℕ, ◌+◌, ◌≤◌, Bool, true, false, not, cond, List, [], ◌∷◌, ◌++◌, map, refl, sym, ap}
use Rattle.std.proofs.Common.{◌∙◌, arith}
use Rattle.std.proofs.lemmas.List.Sums.{sum_by-append, sum_by-cons, sum_by-le-sum_by}
use Rattle.std.specs.Prelude.{count_by, filter, ◌||◌, nat_lt}
use Rattle.std.specs.List.{list_any}
use Rattle.std.proofs.lemmas.Bool.Decides.{nat_tests}

-- a count of one more
pub count-cons : {X : Type 0} (p : X → Bool) (x : X) (xs : List X)
    → count_by p (x ∷ xs) ≡ cond (p x) 1 0 + count_by p xs
count-cons p x xs = sum_by-cons (λ y. cond (p y) 1 0) x xs

-- a count of two lists, one behind the other
pub count-append : {X : Type 0} (p : X → Bool) (xs ys : List X) → count_by p (xs ++ ys) ≡ count_by p xs + count_by p ys
count-append p xs ys = sum_by-append (λ x. cond (p x) 1 0) xs ys

filter_step : {X : Type 0} (p q : X → Bool) (x : X) (xs : List X) (b : Bool) → count_by p (filter q xs) ≤ count_by p xs
    → count_by p (cond b (x ∷ filter q xs) (filter q xs)) ≤ count_by p (x ∷ xs)
filter_step p q x xs true h = omega (arith, count-cons p x (filter q xs), count-cons p x xs)
filter_step p q x xs false h = omega (arith, count-cons p x xs)

-- a filter makes no count larger
pub count-filter : {X : Type 0} (p q : X → Bool) (xs : List X) → count_by p (filter q xs) ≤ count_by p xs
count-filter p q [] = omega arith
count-filter p q (x ∷ xs) = filter_step p q x xs (q x) (count-filter p q xs)

parts_step : {X : Type 0} (p : X → Bool) (x : X) (xs kept dropped : List X) (b : Bool)
    → count_by p kept + count_by p dropped ≡ count_by p xs
    → count_by p (cond (not b) (x ∷ kept) kept) + count_by p (cond b (x ∷ dropped) dropped) ≡ count_by p (x ∷ xs)
parts_step p x xs kept dropped true h = omega (arith, count-cons p x dropped, count-cons p x xs)
parts_step p x xs kept dropped false h = omega (arith, count-cons p x kept, count-cons p x xs)

-- what a filter keeps and what it drops make up the whole
pub count-parts : {X : Type 0} (p q : X → Bool) (xs : List X)
    → count_by p (filter (λ x. not (q x)) xs) + count_by p (filter q xs) ≡ count_by p xs
count-parts p q [] = refl
count-parts p q (x ∷ xs) = parts_step p x xs (filter (λ y. not (q y)) xs) (filter q xs) (q x) (count-parts p q xs)

-- a count of what a function makes
pub count-map : {X Y : Type 0} (p : Y → Bool) (f : X → Y) (xs : List X)
    → count_by p (map f xs) ≡ count_by (λ x. p (f x)) xs
count-map p f [] = refl
count-map {X} p f (x ∷ xs) =
    count-cons p (f x) (map f xs) ∙ ap (λ (n : ℕ). cond (p (f x)) 1 0 + n) (count-map p f xs)
    ∙ sym (count-cons (λ (y : X). p (f y)) x xs)

cond-le : (a b : Bool) → (a ≡ true → b ≡ true) → cond a 1 0 ≤ cond b 1 0
cond-le true true k = omega arith
cond-le true false k = let e = k refl in absurd cc
cond-le false true k = omega arith
cond-le false false k = omega arith

-- a test that holds of fewer makes no count larger
pub count-less : {X : Type 0} (p q : X → Bool) (xs : List X) → ((x : X) → p x ≡ true → q x ≡ true)
    → count_by p xs ≤ count_by q xs
count-less p q xs h = sum_by-le-sum_by (λ x. cond (p x) 1 0) (λ x. cond (q x) 1 0) xs (λ x. cond-le (p x) (q x) (h x))

any_step : (b rest : Bool) (n : ℕ) → rest ≡ nat_lt 0 n → (b || rest) ≡ nat_lt 0 (cond b 1 0 + n)
any_step true rest n h = grind (arith, nat_tests)
any_step false rest n h = let e : 0 + n ≡ n = omega arith in rw e h

-- there is one exactly where the count is above none
pub any-count : {X : Type 0} (p : X → Bool) (xs : List X) → list_any p xs ≡ nat_lt 0 (count_by p xs)
any-count p [] = refl
any-count p (x ∷ xs) =
    any_step (p x) (list_any p xs) (count_by p xs) (any-count p xs)
    ∙ ap (λ (n : ℕ). nat_lt 0 n) (sym (count-cons p x xs))

none_is : (n : ℕ) → false ≡ nat_lt 0 n → n ≡ 0
none_is n h = grind (arith, nat_tests)

-- where there is none, the count is none
pub no-count : {X : Type 0} (p : X → Bool) (xs : List X) → list_any p xs ≡ false → count_by p xs ≡ 0
no-count p xs h = none_is (count_by p xs) (sym h ∙ any-count p xs)
