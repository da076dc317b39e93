-- What a change of a slab's slots makes of its values in order.
use Rattle.std.proofs.Common.{◌≡◌, ◌≢◌, ℕ, zero, suc, Bool, true, false, not, cond, ltb, eqb, List, [], ◌∷◌, ◌++◌}
use Rattle.std.proofs.Common.{map, filter, length, get_or, set, Option, Some, None, is_some, count_by, refl, sym, ap}
use Rattle.std.proofs.Common.{◌∙◌, inl, inr}
use Rattle.std.proofs.Common.{arith}
use Rattle.std.specs.List.{find, list_all}
use Rattle.std.proofs.lemmas.Bool.{cases_Bool, cond-true, cond-false, and_parts, ltb-true, ne_eqb, eq-eqb}
use Rattle.std.proofs.lemmas.Bool.{not_from_false, true≢false}
use Rattle.std.proofs.lemmas.List.Sums.{sum_by-cons}
use Rattle.broker_index.specs.Slots.{put_in, in_order, is_rising}
use Rattle.broker_index.proofs.Sorting.{is_apart, list_all-put_in, list_all-weaker, put_in_last, put_in-push}
use Rattle.broker_index.proofs.Sorting.{map-put_in, map_same}
use Rattle.broker_index.proofs.Sorting.{filter-put_in, filter-put_in_out, filter_same, find-put_in, find-put_in_other}
use Rattle.broker_index.proofs.Sorting.{rising_put_in}

module _ {T : Type 0} (number_of : T → ℕ) where
  -- another number is apart both ways
  apart-swap : (x y : T) → is_apart number_of x y ≡ true → eqb (number_of x) (number_of y) ≡ false
  apart-swap x y apart = ne_eqb (number_of x) (number_of y) (λ e. absurd
      (true≢false (sym apart ∙ ap not (eq-eqb (number_of y) (number_of x) (sym e)))))

  -- what all values pass, the one in a slot passes
  pub passes-slot : (p : T → Bool) (slots : List (Option T)) (key : ℕ) (v : T) → get_or slots key None ≡ Some v
      → list_all p (in_order number_of slots) ≡ true → p v ≡ true
  passes-slot p [] key v found all = absurd (cc)
  passes-slot p (None ∷ slots) zero v found all = absurd (cc)
  passes-slot p (None ∷ slots) (suc key) v found all = passes-slot p slots key v found all
  passes-slot p (Some x ∷ slots) zero v found all =
      let same : x ≡ v = cc in
      ap p (sym same) ∙ (and_parts (p x) _ (sym (list_all-put_in number_of p x (in_order number_of slots)) ∙ all)).0
  passes-slot p (Some x ∷ slots) (suc key) v found all =
      passes-slot p slots key v found (and_parts (p x) _ (sym (list_all-put_in number_of p x (in_order number_of slots))
      ∙ all)).1

  -- one value changes, and keeps its number
  pub in_order-change : (f : T → T) → ((z : T) → number_of (f z) ≡ number_of z)
      → (slots : List (Option T)) (key : ℕ) (v w : T)
      → get_or slots key None ≡ Some v → is_rising number_of (in_order number_of slots) ≡ true
      → f v ≡ w → ((z : T) → is_apart number_of v z ≡ true → f z ≡ z)
      → in_order number_of (set slots key (Some w)) ≡ map f (in_order number_of slots)
  in_order-change f keeps [] key v w found rising changed others = absurd (cc)
  in_order-change f keeps (None ∷ slots) zero v w found rising changed others = absurd (cc)
  in_order-change f keeps (None ∷ slots) (suc key) v w found rising changed others =
      in_order-change f keeps slots key v w found rising
      changed others
  in_order-change f keeps (Some x ∷ slots) zero v w found rising changed others =
      let same : x ≡ v = cc in
      let rest = rising_put_in number_of x (in_order number_of slots) rising in
      let all = rw same at rest.1 in
      rw (
        map-put_in number_of f keeps x (in_order number_of slots),
        map_same (is_apart number_of v) f others (in_order number_of slots)
            all,
        same,
        changed,
      ) refl
  in_order-change f keeps (Some x ∷ slots) (suc key) v w found rising changed others =
      let rest = rising_put_in number_of x (in_order number_of slots) rising in
      let apart = passes-slot (is_apart number_of x) slots key v found rest.1 in
      let stays : f x ≡ x = others x (not_from_false (eqb (number_of x) (number_of v)) (apart-swap x v apart)) in
      rw (
        in_order-change f keeps slots key v w found rest.0 changed others,
        map-put_in number_of f keeps x (in_order number_of slots),
        stays,
      ) refl

  -- one value is taken out
  pub in_order-remove : (p : T → Bool) (slots : List (Option T)) (key : ℕ) (v : T) → get_or slots key None ≡ Some v
      → is_rising number_of (in_order number_of slots) ≡ true
      → p v ≡ false → ((z : T) → is_apart number_of v z ≡ true → p z ≡ true)
      → in_order number_of (set slots key None) ≡ filter p (in_order number_of slots)
  in_order-remove p [] key v found rising fails others = absurd (cc)
  in_order-remove p (None ∷ slots) zero v found rising fails others = absurd (cc)
  in_order-remove p (None ∷ slots) (suc key) v found rising fails others =
      in_order-remove p slots key v found rising fails others
  in_order-remove p (Some x ∷ slots) zero v found rising fails others =
      let same : x ≡ v = cc in
      let rest = rising_put_in number_of x (in_order number_of slots) rising in
      let all = rw same at rest.1 in
      sym (filter-put_in_out number_of p x (in_order number_of slots) (ap p same ∙ fails)
      ∙ filter_same p (in_order number_of slots) (list_all-weaker (is_apart number_of v) p others
      (in_order number_of slots) all))
  in_order-remove p (Some x ∷ slots) (suc key) v found rising fails others =
      let rest = rising_put_in number_of x (in_order number_of slots) rising in
      let apart = passes-slot (is_apart number_of x) slots key v found rest.1 in
      let passes : p x ≡ true = others x (not_from_false (eqb (number_of x) (number_of v)) (apart-swap x v apart)) in
      ap (put_in number_of x) (in_order-remove p slots key v found rest.0 fails others)
      ∙ sym (filter-put_in number_of p x (in_order number_of slots) passes rest.0)

  -- the value in a slot is found by what no other passes
  pub find-slot : (p : T → Bool) (slots : List (Option T)) (key : ℕ) (v : T) → get_or slots key None ≡ Some v
      → is_rising number_of (in_order number_of slots) ≡ true
      → p v ≡ true → ((z : T) → is_apart number_of v z ≡ true → p z ≡ false)
      → find p (in_order number_of slots) ≡ Some v
  find-slot p [] key v found rising passes others = absurd (cc)
  find-slot p (None ∷ slots) zero v found rising passes others = absurd (cc)
  find-slot p (None ∷ slots) (suc key) v found rising passes others = find-slot p slots key v found rising passes others
  find-slot p (Some x ∷ slots) zero v found rising passes others =
      let same : x ≡ v = cc in
      let rest = rising_put_in number_of x (in_order number_of slots) rising in
      let all = rw same at rest.1 in
      let fail = λ (z : T) (h : is_apart number_of v z ≡ true). not_from_false (p z) (others z h) in
      find-put_in number_of p x (in_order number_of slots) (ap p same ∙ passes)
      (list_all-weaker (is_apart number_of v) (λ z. not (p z)) fail (in_order number_of slots) all) ∙ ap Some same
  find-slot p (Some x ∷ slots) (suc key) v found rising passes others =
      let rest = rising_put_in number_of x (in_order number_of slots) rising in
      let apart = passes-slot (is_apart number_of x) slots key v found rest.1 in
      let fails : p x ≡ false = others x (not_from_false (eqb (number_of x) (number_of v)) (apart-swap x v apart)) in
      find-put_in_other number_of p x (in_order number_of slots) fails
      ∙ find-slot p slots key v found rest.0 passes others

  -- where no slot's value passes, none is found
  pub find-no_slot : (p : T → Bool) (slots : List (Option T))
      → ((key : ℕ) (v : T) → get_or slots key None ≡ Some v → p v ≡ false)
      → find p (in_order number_of slots) ≡ None
  find-no_slot p [] none = refl
  find-no_slot p (None ∷ slots) none = find-no_slot p slots (λ key. none (suc key))
  find-no_slot p (Some x ∷ slots) none =
      find-put_in_other number_of p x (in_order number_of slots) (none 0 x refl)
      ∙ find-no_slot p slots (λ key. none (suc key))

  -- slots with the same values under the same keys have the same values in order
  pub in_order-same : (old new : List (Option T)) → ((key : ℕ) → get_or new key None ≡ get_or old key None)
      → in_order number_of new ≡ in_order number_of old
  in_order-same [] [] same = refl
  in_order-same [] (None ∷ new) same = in_order-same [] new (λ key. same (suc key))
  in_order-same [] (Some x ∷ new) same = let first = same 0 in absurd (cc)
  in_order-same (None ∷ old) [] same = in_order-same old [] (λ key. same (suc key))
  in_order-same (Some y ∷ old) [] same = let first = same 0 in absurd (cc)
  in_order-same (None ∷ old) (None ∷ new) same = in_order-same old new (λ key. same (suc key))
  in_order-same (None ∷ old) (Some x ∷ new) same = let first = same 0 in absurd (cc)
  in_order-same (Some y ∷ old) (None ∷ new) same = let first = same 0 in absurd (cc)
  in_order-same (Some y ∷ old) (Some x ∷ new) same =
      let first = same 0 in
      let equal : x ≡ y = cc in
      rw (equal, in_order-same old new (λ key. same (suc key))) refl

  -- a value that is above all others comes in under a key that had none
  pub in_order-more : (old new : List (Option T)) (key : ℕ) (x : T) → get_or old key None ≡ None
      → get_or new key None ≡ Some x
      → ((other : ℕ) → other ≢ key → get_or new other None ≡ get_or old other None)
      → list_all (λ y. ltb (number_of y) (number_of x)) (in_order number_of old) ≡ true
      → in_order number_of new ≡ in_order number_of old ++ x ∷ []
  in_order-more old [] key x vacant found others below = absurd (cc)
  in_order-more [] (None ∷ new) zero x vacant found others below = absurd (cc)
  in_order-more [] (None ∷ new) (suc key) x vacant found others below = in_order-more [] new key x refl found
      (λ other differs. others (suc other) (λ e. differs (omega arith))) refl
  in_order-more [] (Some y ∷ new) zero x vacant found others below =
      let same : y ≡ x = cc in
      rw (in_order-same [] new (λ key. others (suc key) (λ e. omega arith)), same) refl
  in_order-more [] (Some y ∷ new) (suc key) x vacant found others below =
      let first = others 0 (λ e. omega arith) in absurd (cc)
  in_order-more (None ∷ old) (None ∷ new) zero x vacant found others below = absurd (cc)
  in_order-more (None ∷ old) (None ∷ new) (suc key) x vacant found others below =
      in_order-more old new key x vacant found
      (λ other differs. others (suc other) (λ e. differs (omega arith))) below
  in_order-more (None ∷ old) (Some y ∷ new) zero x vacant found others below =
      let same : y ≡ x = cc in
      rw (in_order-same old new (λ key. others (suc key) (λ e. omega arith)), same)
      (put_in_last number_of x (in_order number_of old) below)
  in_order-more (None ∷ old) (Some y ∷ new) (suc key) x vacant found others below =
      let first = others 0 (λ e. omega arith) in absurd (cc)
  in_order-more (Some y ∷ old) (slot ∷ new) zero x vacant found others below = absurd (cc)
  in_order-more (Some y ∷ old) (None ∷ new) (suc key) x vacant found others below =
      let first = others 0 (λ e. omega arith) in absurd (cc)
  in_order-more (Some y ∷ old) (Some z ∷ new) (suc key) x vacant found others below =
      let first = others 0 (λ e. omega arith) in
      let same : z ≡ y = cc in
      let parts = and_parts (ltb (number_of y) (number_of x)) _ (sym (list_all-put_in number_of
      (λ w. ltb (number_of w) (number_of x)) y
      (in_order number_of old)) ∙ below) in
      rw (
        in_order-more old new key x vacant found (λ other differs. others (suc other) (λ e. differs (omega arith)))
            parts.1,
        same,
      )
      (put_in-push number_of y x (in_order number_of old) (ltb-true (number_of y) (number_of x) parts.0))

  length-put_in : (x : T) (ys : List T) → length (put_in number_of x ys) ≡ suc (length ys)
  length-put_in x [] = refl
  length-put_in x (y ∷ ys) =
      elim (cases_Bool (ltb (number_of x) (number_of y))) [
        | inl low ↦ ap length (cond-true (ltb (number_of x) (number_of y)) (x ∷ y ∷ ys) (y ∷ put_in number_of x ys) low)
        | inr high ↦ ap length (cond-false (ltb (number_of x) (number_of y)) (x ∷ y ∷ ys) (y ∷ put_in number_of x ys)
            high)
            ∙ ap suc (length-put_in x ys)
      ]

  -- as many values as slots with one
  pub length-in_order : (slots : List (Option T)) → length (in_order number_of slots) ≡ count_by is_some slots
  length-in_order [] = refl
  length-in_order (None ∷ slots) =
      omega (arith, length-in_order slots, sum_by-cons (λ o. cond (is_some o) 1 0) None slots)
  length-in_order (Some x ∷ slots) = omega (
    arith,
    length-put_in x (in_order number_of slots),
    length-in_order slots,
    sum_by-cons
        (λ o. cond (is_some o) 1 0) (Some x) slots,
  )
