-- Values put in order of their numbers.
use Rattle.std.proofs.Common.{◌≡◌, ℕ, ◌<◌, Bool, true, false, not, ◌&&◌, cond, ltb, eqb, List, [], ◌∷◌, ◌++◌, map}
use Rattle.std.proofs.Common.{filter}
use Rattle.std.proofs.Common.{Some, None, refl, sym, ap, ◌∙◌, inl, inr, arith}
use Rattle.std.specs.List.{find, list_all}
use Rattle.std.proofs.lemmas.Bool.{cases_Bool, cond-true, cond-false, and_parts, and_from, ltb-true, lt-ltb, le-ltb}
use Rattle.std.proofs.lemmas.Bool.{ne_eqb}
use Rattle.std.proofs.lemmas.Bool.{not-true, not_from_false}
use Rattle.std.proofs.lemmas.List.Folds.{list_all-append, list_all-map}
use Rattle.broker_index.specs.Slots.{put_in, is_rising}

-- the order of two tests does not matter
and_swap : (a b c : Bool) → (a && (b && c)) ≡ (b && (a && c))
and_swap true true c = refl
and_swap true false c = refl
and_swap false true c = refl
and_swap false false c = refl

module _ {T : Type 0} where
  -- what passes one test passes a weaker one
  pub list_all-weaker : (p q : T → Bool) → ((x : T) → p x ≡ true → q x ≡ true) → (xs : List T) → list_all p xs ≡ true
      → list_all q xs ≡ true
  list_all-weaker p q weaker [] all = refl
  list_all-weaker p q weaker (x ∷ xs) all =
      let parts = and_parts (p x) (list_all p xs) all in
      and_from (q x) (list_all q xs) (weaker x parts.0) (list_all-weaker p q weaker xs parts.1)

  -- what all pass, those that are left pass
  pub list_all-filter : (p q : T → Bool) (xs : List T) → list_all q xs ≡ true → list_all q (filter p xs) ≡ true
  list_all-filter p q [] all = refl
  list_all-filter p q (x ∷ xs) all =
      let parts = and_parts (q x) (list_all q xs) all in
      elim (cases_Bool (p x)) [
        | inl in_it ↦ rw (cond-true (p x) (x ∷ filter p xs) (filter p xs) in_it)
            (and_from (q x) (list_all q (filter p xs)) parts.0 (list_all-filter p q xs parts.1))
        | inr out ↦ rw (cond-false (p x) (x ∷ filter p xs) (filter p xs) out) (list_all-filter p q xs parts.1)
      ]

  -- a change that leaves each of them as it is leaves the list
  pub map_same : (p : T → Bool) (f : T → T) → ((x : T) → p x ≡ true → f x ≡ x) → (xs : List T) → list_all p xs ≡ true
      → map f xs ≡ xs
  map_same p f same [] all = refl
  map_same p f same (x ∷ xs) all =
      let parts = and_parts (p x) (list_all p xs) all in
      rw (same x parts.0, map_same p f same xs parts.1) refl

  -- a filter that all pass leaves the list
  pub filter_same : (p : T → Bool) (xs : List T) → list_all p xs ≡ true → filter p xs ≡ xs
  filter_same p [] all = refl
  filter_same p (x ∷ xs) all =
      let parts = and_parts (p x) (list_all p xs) all in
      cond-true (p x) (x ∷ filter p xs) (filter p xs) parts.0 ∙ ap (λ ys. x ∷ ys) (filter_same p xs parts.1)

module _ {T : Type 0} (number_of : T → ℕ) where
  -- whether a value's number is not that of another
  abbrev pub is_apart : T → T → Bool
  is_apart x y = not (eqb (number_of y) (number_of x))

  put_in-low : (x y : T) (ys : List T) → ltb (number_of x) (number_of y) ≡ true
      → put_in number_of x (y ∷ ys) ≡ x ∷ y ∷ ys
  put_in-low x y ys low = cond-true (ltb (number_of x) (number_of y)) (x ∷ y ∷ ys) (y ∷ put_in number_of x ys) low

  put_in-high : (x y : T) (ys : List T) → ltb (number_of x) (number_of y) ≡ false
      → put_in number_of x (y ∷ ys) ≡ y ∷ put_in number_of x ys
  put_in-high x y ys high = cond-false (ltb (number_of x) (number_of y)) (x ∷ y ∷ ys) (y ∷ put_in number_of x ys) high

  -- all pass once one is put in, if it passes and the others do
  pub list_all-put_in : (p : T → Bool) (x : T) (ys : List T)
      → list_all p (put_in number_of x ys) ≡ (p x && list_all p ys)
  list_all-put_in p x [] = refl
  list_all-put_in p x (y ∷ ys) =
      elim (cases_Bool (ltb (number_of x) (number_of y))) [
        | inl low ↦ rw (put_in-low x y ys low) refl
        | inr high ↦ rw (put_in-high x y ys high, list_all-put_in p x ys, and_swap (p y) (p x) (list_all p ys)) refl
      ]

  -- a value that is below all others goes to the front
  pub put_in_front : (x : T) (ys : List T) → list_all (λ y. ltb (number_of x) (number_of y)) ys ≡ true
      → put_in number_of x ys ≡ x ∷ ys
  put_in_front x [] all = refl
  put_in_front x (y ∷ ys) all = put_in-low x y ys (and_parts (ltb (number_of x) (number_of y)) _ all).0

  -- a value that is above all others goes to the end
  pub put_in_last : (x : T) (ys : List T) → list_all (λ y. ltb (number_of y) (number_of x)) ys ≡ true
      → put_in number_of x ys ≡ ys ++ x ∷ []
  put_in_last x [] all = refl
  put_in_last x (y ∷ ys) all =
      let parts = and_parts (ltb (number_of y) (number_of x)) _ all in
      let below = ltb-true (number_of y) (number_of x) parts.0 in
      put_in-high x y ys (le-ltb (number_of x) (number_of y) (omega arith))
      ∙ ap (λ zs. y ∷ zs) (put_in_last x ys parts.1)

  -- a value put in before one at the end that is above it
  pub put_in-push : (y x : T) (ys : List T) → number_of y < number_of x
      → put_in number_of y (ys ++ x ∷ []) ≡ put_in number_of y ys ++ x ∷ []
  put_in-push y x [] below = put_in-low y x [] (lt-ltb (number_of y) (number_of x) below)
  put_in-push y x (z ∷ zs) below =
      elim (cases_Bool (ltb (number_of y) (number_of z))) [
        | inl low ↦ put_in-low y z (zs ++ x ∷ []) low ∙ sym (ap (λ ws. ws ++ x ∷ []) (put_in-low y z zs low))
        | inr high ↦ put_in-high y z (zs ++ x ∷ []) high ∙ ap (λ ws. z ∷ ws) (put_in-push y x zs below)
            ∙ sym (ap (λ ws. ws ++ x ∷ []) (put_in-high y z zs high))
      ]

  -- a change that keeps numbers may come before or behind
  pub map-put_in : (f : T → T) → ((z : T) → number_of (f z) ≡ number_of z) → (x : T) (ys : List T)
      → map f (put_in number_of x ys) ≡ put_in number_of (f x) (map f ys)
  map-put_in f keeps x [] = refl
  map-put_in f keeps x (y ∷ ys) =
      let same : ltb (number_of (f x)) (number_of (f y)) ≡ ltb (number_of x) (number_of y) =
      rw (keeps x, keeps y) refl in
      elim (cases_Bool (ltb (number_of x) (number_of y))) [
        | inl low ↦ ap (map f) (put_in-low x y ys low) ∙ sym (put_in-low (f x) (f y) (map f ys) (same ∙ low))
        | inr high ↦ ap (map f) (put_in-high x y ys high) ∙ ap (λ zs. f y ∷ zs) (map-put_in f keeps x ys)
            ∙ sym (put_in-high (f x) (f y) (map f ys) (same ∙ high))
      ]

  -- one that does not pass is not left
  pub filter-put_in_out : (p : T → Bool) (x : T) (ys : List T) → p x ≡ false
      → filter p (put_in number_of x ys) ≡ filter p ys
  filter-put_in_out p x [] fails = cond-false (p x) (x ∷ []) [] fails
  filter-put_in_out p x (y ∷ ys) fails =
      elim (cases_Bool (ltb (number_of x) (number_of y))) [
        | inl low ↦ ap (filter p) (put_in-low x y ys low)
            ∙ cond-false (p x) (x ∷ filter p (y ∷ ys)) (filter p (y ∷ ys)) fails
        | inr high ↦ ap (filter p) (put_in-high x y ys high)
            ∙ ap (λ zs. cond (p y) (y ∷ zs) zs) (filter-put_in_out p x ys fails)
      ]

  -- one that passes may be put in behind
  pub filter-put_in : (p : T → Bool) (x : T) (ys : List T) → p x ≡ true → is_rising number_of ys ≡ true
      → filter p (put_in number_of x ys) ≡ put_in number_of x (filter p ys)
  filter-put_in p x [] passes rising = cond-true (p x) (x ∷ []) [] passes
  filter-put_in p x (y ∷ ys) passes rising =
      let parts = and_parts (list_all (λ z. ltb (number_of y) (number_of z)) ys) (is_rising number_of ys) rising in
      elim (cases_Bool (ltb (number_of x) (number_of y))) [
        | inl low ↦
            let above = λ (z : T) (h : ltb (number_of y) (number_of z) ≡ true).
            lt-ltb (number_of x) (number_of z) (omega (
              arith,
              ltb-true (number_of x) (number_of y) low,
              ltb-true (number_of y)
                  (number_of z) h,
            )) in
            let all =
            and_from (ltb (number_of x) (number_of y)) _ low (list_all-weaker (λ z. ltb (number_of y) (number_of z))
            (λ z. ltb (number_of x) (number_of z)) above ys parts.0) in
            ap (filter p) (put_in-low x y ys low) ∙ cond-true (p x) (x ∷ filter p (y ∷ ys)) (filter p (y ∷ ys)) passes
            ∙ sym (put_in_front x (filter p (y ∷ ys)) (list_all-filter p (λ z. ltb (number_of x) (number_of z)) (y ∷ ys)
            all))
        | inr high ↦
            let later = filter-put_in p x ys passes parts.1 in
            elim (cases_Bool (p y)) [
              | inl in_it ↦
                  ap (filter p) (put_in-high x y ys high)
                  ∙ cond-true (p y) (y ∷ filter p (put_in number_of x ys)) _ in_it
                  ∙ ap (λ zs. y ∷ zs) later ∙ sym (put_in-high x y (filter p ys) high)
                  ∙ sym (ap (put_in number_of x) (cond-true (p y) (y ∷ filter p ys) (filter p ys) in_it))
              | inr out ↦
                  ap (filter p) (put_in-high x y ys high)
                  ∙ cond-false (p y) (y ∷ filter p (put_in number_of x ys)) _ out
                  ∙ later ∙ sym (ap (put_in number_of x) (cond-false (p y) (y ∷ filter p ys) (filter p ys) out))
            ]
      ]

  -- one that does not pass is not found
  pub find-put_in_other : (p : T → Bool) (x : T) (ys : List T) → p x ≡ false
      → find p (put_in number_of x ys) ≡ find p ys
  find-put_in_other p x [] fails = cond-false (p x) (Some x) None fails
  find-put_in_other p x (y ∷ ys) fails =
      elim (cases_Bool (ltb (number_of x) (number_of y))) [
        | inl low ↦ ap (find p) (put_in-low x y ys low) ∙ cond-false (p x) (Some x) (find p (y ∷ ys)) fails
        | inr high ↦ ap (find p) (put_in-high x y ys high)
            ∙ ap (λ o. cond (p y) (Some y) o) (find-put_in_other p x ys fails)
      ]

  -- the only one that passes is found
  pub find-put_in : (p : T → Bool) (x : T) (ys : List T) → p x ≡ true → list_all (λ y. not (p y)) ys ≡ true
      → find p (put_in number_of x ys) ≡ Some x
  find-put_in p x [] passes all = cond-true (p x) (Some x) None passes
  find-put_in p x (y ∷ ys) passes all =
      let parts = and_parts (not (p y)) (list_all (λ z. not (p z)) ys) all in
      elim (cases_Bool (ltb (number_of x) (number_of y))) [
        | inl low ↦ ap (find p) (put_in-low x y ys low) ∙ cond-true (p x) (Some x) (find p (y ∷ ys)) passes
        | inr high ↦ ap (find p) (put_in-high x y ys high) ∙ cond-false (p y) (Some y) (find p (put_in number_of x ys))
            (not-true (p y) parts.0) ∙ find-put_in p x ys passes parts.1
      ]

  -- where the numbers rise, the others rise, and are apart from the one that is put in
  pub rising_put_in : (x : T) (ys : List T) → is_rising number_of (put_in number_of x ys) ≡ true
      → (is_rising number_of ys ≡ true) × (list_all (is_apart x) ys ≡ true)
  rising_put_in x [] rising = (refl, refl)
  rising_put_in x (y ∷ ys) rising =
      elim (cases_Bool (ltb (number_of x) (number_of y))) [
        | inl low ↦
            let parts =
            and_parts (list_all (λ z. ltb (number_of x) (number_of z)) (y ∷ ys)) (is_rising number_of (y ∷ ys))
            (rw (put_in-low x y ys low) at rising) in
            let apart = λ (z : T) (h : ltb (number_of x) (number_of z) ≡ true).
            not_from_false (eqb (number_of z) (number_of x)) (ne_eqb (number_of z) (number_of x)
            (λ e. omega (arith, ltb-true (number_of x) (number_of z) h))) in
            (parts.1, list_all-weaker (λ z. ltb (number_of x) (number_of z)) (is_apart x) apart (y ∷ ys) parts.0)
        | inr high ↦
            let parts = and_parts (list_all (λ z. ltb (number_of y) (number_of z)) (put_in number_of x ys))
            (is_rising number_of (put_in number_of x ys)) (rw (put_in-high x y ys high) at rising) in
            let above = and_parts (ltb (number_of y) (number_of x)) (list_all (λ z. ltb (number_of y) (number_of z)) ys)
            (rw (list_all-put_in (λ z. ltb (number_of y) (number_of z)) x ys) at parts.0) in
            let below = ltb-true (number_of y) (number_of x) above.0 in
            let later = rising_put_in x ys parts.1 in (
              and_from _ _ above.1 later.0,
              and_from (is_apart x y) _ (not_from_false (eqb (number_of y) (number_of x))
                  (ne_eqb (number_of y) (number_of x) (λ e. omega arith))) later.1,
            )
      ]

  -- a change that keeps numbers keeps that they rise
  pub rising-map : (f : T → T) → ((z : T) → number_of (f z) ≡ number_of z) → (ys : List T)
      → is_rising number_of (map f ys) ≡ is_rising number_of ys
  rising-map f keeps [] = refl
  rising-map f keeps (y ∷ ys) =
      rw (list_all-map (λ z. ltb (number_of (f y)) (number_of z)) f ys, rising-map f keeps ys, keeps y)
      (simp keeps refl)

  -- those that are left rise
  pub rising-filter : (p : T → Bool) (ys : List T) → is_rising number_of ys ≡ true
      → is_rising number_of (filter p ys) ≡ true
  rising-filter p [] rising = refl
  rising-filter p (y ∷ ys) rising =
      let parts = and_parts (list_all (λ z. ltb (number_of y) (number_of z)) ys) (is_rising number_of ys) rising in
      elim (cases_Bool (p y)) [
        | inl in_it ↦ ap (is_rising number_of) (cond-true (p y) (y ∷ filter p ys) (filter p ys) in_it)
            ∙ and_from _ _ (list_all-filter p (λ z. ltb (number_of y) (number_of z)) ys parts.0)
            (rising-filter p ys parts.1)
        | inr out ↦ ap (is_rising number_of) (cond-false (p y) (y ∷ filter p ys) (filter p ys) out)
            ∙ rising-filter p ys parts.1
      ]

  -- with one at the end that is above all they rise
  pub rising-push : (x : T) (ys : List T) → is_rising number_of ys ≡ true
      → list_all (λ y. ltb (number_of y) (number_of x)) ys ≡ true
      → is_rising number_of (ys ++ x ∷ []) ≡ true
  rising-push x [] rising all = refl
  rising-push x (y ∷ ys) rising all =
      let parts = and_parts (list_all (λ z. ltb (number_of y) (number_of z)) ys) (is_rising number_of ys) rising in
      let below = and_parts (ltb (number_of y) (number_of x)) _ all in
      and_from _ _
      (list_all-append (λ z. ltb (number_of y) (number_of z)) ys (x ∷ [])
      ∙ and_from _ _ parts.0 (and_from _ _ below.0 refl))
      (rising-push x ys parts.1 below.1)
