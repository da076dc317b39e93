-- Places that come behind others, or go.
use Rattle.std.proofs.Common.{◌≡◌, ◌<◌, ℕ, ◌+◌, Bool, true, false, ◌||◌, List, [], ◌∷◌, ◌++◌, map}
use Rattle.std.proofs.Common.{Some, None, refl, sym, ap, ◌∙◌, arith, inl, inr}
use Rattle.std.specs.Prelude.{◌==◌, ◌⊎◌, All, filter, nat_le, not}
use Rattle.std.proofs.lemmas.Bool.{cases_Bool, cases_eq, and_parts, eqb-true, eq-eqb, ne_eqb}
use Rattle.std.proofs.lemmas.List.Elements.{All-nil, All-cons, All-head, All-tail}
use Rattle.std.proofs.lemmas.List.Folds.{list_any-append}
use Rattle.std.proofs.lemmas.Map.Views.{any-filter_same}
use Rattle.broker_index.specs.Index.{entries_without, is_place_of, without}
use Rattle.broker_index.specs.declared.places.Entry.{Entry}
use Rattle.broker_index.specs.declared.places.KeyedPlace.{KeyedPlace}
use Rattle.broker_queues.specs.Parts.Facts.{lists, notes, rise}
use Rattle.broker_queues.proofs.Rising.{any_from_at, at, at_number, behind}

pub lists_push : (m : ℕ) (ps : List KeyedPlace) (p : KeyedPlace)
    → lists m (ps ++ p ∷ []) ≡ (lists m ps || ((p.number == m) || false))
lists_push m ps p = list_any-append (is_place_of m) ps (p ∷ [])

-- what was listed is
pub lists_still : (m : ℕ) (ps : List KeyedPlace) (p : KeyedPlace) → lists m ps ≡ true → lists m (ps ++ p ∷ []) ≡ true
lists_still m ps p listed = lists_push m ps p ∙ rw listed refl

-- the new one is
pub lists_last : (ps : List KeyedPlace) (p : KeyedPlace) → lists p.number (ps ++ p ∷ []) ≡ true
lists_last ps p = lists_push p.number ps p ∙ rw (eq-eqb p.number p.number refl) (always (lists p.number ps))
  where
    always : (b : Bool) → (b || (true || false)) ≡ true
    always true = refl
    always false = refl

-- no other is
pub lists_was : (m : ℕ) (ps : List KeyedPlace) (p : KeyedPlace) → lists m (ps ++ p ∷ []) ≡ true → (lists m ps ≡ true)
    ⊎ (m ≡ p.number)
lists_was m ps p listed = elim (cases_Bool (lists m ps)) [
  | inl old ↦ inl old
  | inr new ↦ elim (cases_eq m p.number) [
    | inl same ↦ inr same
    | inr other ↦
        let number : (p.number == m) ≡ false = ne_eqb p.number m (λ same. other (sym same)) in
        let none : lists m (ps ++ p ∷ []) ≡ false = lists_push m ps p ∙ rw (new, number) refl in
        let never : true ≡ false = sym listed ∙ none in cc
  ]
]

-- numbers that are listed are below a number: so are all
pub all_below : (n : ℕ) (ps : List KeyedPlace) → ((m : ℕ) → lists m ps ≡ true → m < n) → All (λ p. p.number < n) ps
all_below n [] below = All-nil (λ (p : KeyedPlace). p.number < n)
all_below n (p ∷ ps) below =
    let first : lists p.number (p ∷ ps) ≡ true = rw (eq-eqb p.number p.number refl) refl in
    All-cons (λ (p : KeyedPlace). p.number < n) p ps (below p.number first) (all_below n ps
    (λ m listed. below m (later m listed)))
  where
    later : (m : ℕ) → lists m ps ≡ true → lists m (p ∷ ps) ≡ true
    later m listed = elim (cases_Bool (p.number == m)) [
      | inl on ↦ rw on refl
      | inr off ↦ rw off listed
    ]

-- what holds of each value where it is found holds of all
pub all_found : {X : Type 0} (number : X → ℕ) (P : X → Type 0) (low : ℕ) (xs : List X) → rise number low xs ≡ true
    → ((x : X) → at number (number x) xs ≡ Some x → P x) → All P xs
all_found number P low [] rises each = All-nil P
all_found number P low (x ∷ xs) rises each =
    let parts = and_parts (nat_le low (number x)) (rise number (number x + 1) xs) rises in
    let itself : (number x == number x) ≡ true = eq-eqb (number x) (number x) refl in
    let first : at number (number x) (x ∷ xs) ≡ Some x = rw itself refl in
    All-cons P x xs (each x first) (all_found number P (number x + 1) xs parts.1
    (λ y found. each y (behind number low (number y) x y xs rises found)))

-- what holds of all holds of one that is found
pub found_all : {X : Type 0} (number : X → ℕ) (P : X → Type 0) (n : ℕ) (xs : List X) (y : X) → at number n xs ≡ Some y
    → All P xs → P y
found_all number P n [] y found all = let never : None ≡ Some y = found in cc
found_all number P n (x ∷ xs) y found all = elim (cases_Bool (number x == n)) [
  | inl on ↦
      let same : Some x ≡ Some y = rw on at found in
      let e : x ≡ y = cc in
      rw (← e) (All-head P x xs all)
  | inr off ↦ found_all number P n xs y (rw off at found) (All-tail P x xs all)
]

-- one that is found is listed
pub found_listed : (n : ℕ) (ps : List KeyedPlace) (p : KeyedPlace) → at (λ (p : KeyedPlace). p.number) n ps ≡ Some p
    → lists n ps ≡ true
found_listed n ps p found =
    any_from_at (λ (p : KeyedPlace). p.number) (is_place_of n) n ps p found
    (eq-eqb p.number n (at_number (λ (p : KeyedPlace). p.number) n ps p found))

-- the last one goes, above all others
pub push_filter : {X : Type 0} (number : X → ℕ) (xs : List X) (x : X) → All (λ y. number y < number x) xs
    → filter (λ y. not (number y == number x)) (xs ++ x ∷ []) ≡ xs
push_filter number [] x all = rw (eq-eqb (number x) (number x) refl) refl
push_filter number (y ∷ ys) x all =
    let low : number y < number x = All-head (λ y. number y < number x) y ys all in
    let other : (number y == number x) ≡ false = ne_eqb (number y) (number x) (λ same. omega (arith, same)) in
    rw other (ap (λ l. y ∷ l) (push_filter number ys x (All-tail (λ y. number y < number x) y ys all)))

-- one that goes isn't listed any more
pub lists_gone : (n : ℕ) (ps : List KeyedPlace) → lists n (without n ps) ≡ false
lists_gone n ps = any-filter_same (is_place_of n) (λ p. not (p.number == n)) false (λ p on. ap not on) ps

-- the others are as before
pub lists_other : (n m : ℕ) (ps : List KeyedPlace) → (m ≡ n → ⊥) → lists m (without n ps) ≡ lists m ps
lists_other n m ps other =
    any-filter_same (is_place_of m) (λ p. not (p.number == n)) true
    (λ p on. ap not (ne_eqb p.number n (λ same. other (sym (eqb-true p.number m on) ∙ same)))) ps

-- so it is for deliveries
pub notes_other : (n m : ℕ) (es : List Entry) → (m ≡ n → ⊥) → notes m (entries_without n es) ≡ notes m es
notes_other n m es other =
    any-filter_same (λ (e : Entry). e.number == m) (λ e. not (e.number == n)) true
    (λ e on. ap not (ne_eqb e.number n (λ same. other (sym (eqb-true e.number m on) ∙ same)))) es

-- what a change keeps of each value it keeps of all
pub map_after : {A B : Type 0} (f : A → B) (g : A → A) → ((x : A) → f (g x) ≡ f x) → (xs : List A)
    → map f (map g xs) ≡ map f xs
map_after f g keeps [] = refl
map_after f g keeps (x ∷ xs) = rw (keeps x, map_after f g keeps xs) refl
