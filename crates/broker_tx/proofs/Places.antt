-- Where the first item that passes a test stands, and what it is to change it.
use Rattle.std.proofs.Common.{◌≡◌, ℕ, suc, ◌+◌, ◌<◌, Bool, true, false, cond, List, [], ◌∷◌, ◌++◌, length, take, drop}
use Rattle.std.proofs.Common.{get_or, Option}
use Rattle.std.proofs.Common.{Some, None}
use Rattle.std.proofs.Common.{refl, sym, ap, ◌∙◌, arith, drop-cons, inl, inr}
use Rattle.std.specs.Prelude.{◌||◌, not, nat_lt, slice_set, OnOk, Result, Ok, Err}
use Rattle.std.specs.List.{find, list_any, position, position_or_len, slice_get}
use Rattle.std.proofs.lemmas.List.{set_split, take-append-drop, take_all}
use Rattle.std.proofs.lemmas.Option.{slice_get-get_or, slice_get_cases}
use Rattle.std.proofs.lemmas.List.Sums.{prefix_len_stops}
use Rattle.std.proofs.lemmas.List.Folds.{find_at}
use Rattle.std.proofs.lemmas.Bool.{ltb-true, ltb-false}
use Rattle.broker_tx.specs.First.{first_changed, IsFirstAt, PassesNone}

-- ---- before the first that passes none does

front_step : {X : Type 0} (p : X → Bool) (x : X) (xs : List X) (t : Bool) → p x ≡ t
    → list_any p (take (position_or_len p xs) xs) ≡ false
    → list_any p (take (position_or_len p (x ∷ xs)) (x ∷ xs)) ≡ false
front_step p x xs true e ih = rw e refl
front_step p x xs false e ih =
    let s : 1 + position_or_len p xs ≡ suc (position_or_len p xs) = omega arith in rw (e, s) (rw e ih)

front_at : {X : Type 0} (p : X → Bool) (xs : List X) → list_any p (take (position_or_len p xs) xs) ≡ false
front_at p [] = refl
front_at p (x ∷ xs) = front_step p x xs (p x) refl (front_at p xs)

picks : (t : Bool) (n i : ℕ) → cond t (Some n) None ≡ Some i → (t ≡ true) × (n ≡ i)
picks true n i e = (refl, cc)
picks false n i e = cc

misses : (t : Bool) (n : ℕ) → cond t (Some n) None ≡ None → t ≡ false
misses true n e = cc
misses false n e = refl

left_false : (a b : Bool) → (a || b) ≡ false → a ≡ false
left_false true b e = e
left_false false b e = refl

right_false : (a b : Bool) → (a || b) ≡ false → b ≡ false
right_false true b e = cc
right_false false b e = e

turned : (t : Bool) → not t ≡ false → t ≡ true
turned true e = refl
turned false e = cc

-- ---- no item passes

pub stays_where_none : {X : Type 0} (p : X → Bool) (xs : List X) → list_any p xs ≡ false → (f : X → X)
    → first_changed p f xs ≡ xs
stays_where_none p [] e f = refl
stays_where_none p (x ∷ xs) e f =
    rw (left_false (p x) _ e) (ap (λ l. x ∷ l) (stays_where_none p xs (right_false (p x) _ e) f))

none_step : {X : Type 0} (p : X → Bool) (x : X) (xs : List X) (t : Bool) → p x ≡ t
    → (list_any p xs ≡ false → find p xs ≡ None)
    → list_any p (x ∷ xs) ≡ false → find p (x ∷ xs) ≡ None
none_step p x xs true e ih h = let z : true ≡ false = rw e at h in cc
none_step p x xs false e ih h = rw e (ih (rw e at h))

none_found : {X : Type 0} (p : X → Bool) (xs : List X) → list_any p xs ≡ false → find p xs ≡ None
none_found p [] h = refl
none_found p (x ∷ xs) h = none_step p x xs (p x) refl (none_found p xs) h

pub passes_none : {X : Type 0} (p : X → Bool) (xs : List X) → list_any p xs ≡ false → PassesNone p xs
passes_none p xs h = record { none = none_found p xs h; stays = stays_where_none p xs h }

all_fail : {X : Type 0} (p : X → Bool) (xs : List X) → nat_lt (position_or_len p xs) (length xs) ≡ false
    → list_any p (take (position_or_len p xs) xs) ≡ list_any p xs
all_fail p xs e = ap (λ l. list_any p l) (take_all (position_or_len p xs) xs (ltb-false _ _ e))

-- where a search finds no place, no element passes
pub nowhere : {X : Type 0} (p : X → Bool) (xs : List X) → position p xs ≡ None → PassesNone p xs
nowhere p xs e =
    let k = misses (nat_lt (position_or_len p xs) (length xs)) (position_or_len p xs) e in
    passes_none p xs (sym (all_fail p xs k) ∙ front_at p xs)

-- ---- an item passes

pub changed_between : {X : Type 0} (p : X → Bool) (f : X → X) (front : List X) (x : X) (back : List X)
    → list_any p front ≡ false
    → p x ≡ true
    → first_changed p f (front ++ x ∷ back) ≡ front ++ f x ∷ back
changed_between p f [] x back e h = rw h refl
changed_between p f (y ∷ front) x back e h =
    rw (left_false (p y) _ e) (ap (λ l. y ∷ l) (changed_between p f front x back (right_false (p y) _ e) h))

element_at : {X : Type 0} (xs : List X) (i : ℕ) → i < length xs → (x : X) × (x ≡ get_or xs i x)
element_at xs i h = elim (slice_get_cases xs i).1 [ inl k ↦ (k.0, sym k.3) | inr k ↦ absurd (omega arith) ]

at_first : {X : Type 0} (p : X → Bool) (xs : List X) (x : X) → position_or_len p xs < length xs
    → x ≡ get_or xs (position_or_len p xs) x
    → IsFirstAt p xs (position_or_len p xs)
at_first p xs x h e =
    let at = position_or_len p xs in
    let passes : p x ≡ true = ap p e ∙ turned (p (get_or xs at x)) (prefix_len_stops (λ y. not (p y)) xs x h) in
    let split : xs ≡ take at xs ++ x ∷ drop (suc at) xs =
    sym (take-append-drop at xs) ∙ ap (λ l. take at xs ++ l) (drop-cons xs at x h
    ∙ ap (λ y. y ∷ drop (suc at) xs) (sym e)) in
    record {
      item = x;
      within = h;
      got = slice_get-get_or xs at x h ∙ ap (λ y. Some y) (sym e);
      found = find_at p xs ∙ slice_get-get_or xs at x h ∙ ap (λ y. Some y) (sym e);
      sets = λ f. ap (first_changed p f) split
          ∙ changed_between p f (take at xs) x (drop (suc at) xs) (front_at p xs) passes
          ∙ sym (set_split xs at (f x) h);
    }

-- the place that a search finds is the first that passes
pub somewhere : {X : Type 0} (p : X → Bool) (xs : List X) (i : ℕ) → position p xs ≡ Some i → IsFirstAt p xs i
somewhere p xs i e =
    let k = picks (nat_lt (position_or_len p xs) (length xs)) (position_or_len p xs) i e in
    let h : position_or_len p xs < length xs = ltb-true _ _ k.0 in
    let x = element_at xs (position_or_len p xs) h in
    rw (← k.1) (at_first p xs x.0 h x.1)

-- ---- a write at its place

same_item : {X : Type 0} (o : Option X) (x y : X) → o ≡ Some x → o ≡ Some y → y ≡ x
same_item o x y p q = cc

-- a write at the place of the first that passes changes it
pub set_at : {X : Type 0} (p : X → Bool) (xs items news : List X) (i : ℕ) (x : X) (f : X → X) → IsFirstAt p xs i
    → items ≡ xs
    → slice_get items i ≡ Some x → news ≡ slice_set items i (f x) → (news ≡ first_changed p f xs) × (find p xs ≡ Some x)
set_at p xs items news i x f h e get set =
    let m : x ≡ h.item = same_item (slice_get xs i) h.item x h.got (ap (λ l. slice_get l i) (sym e) ∙ get) in (
      set ∙ ap (λ l. slice_set l i (f x)) e ∙ ap (λ y. slice_set xs i (f y)) m ∙ sym (h.sets f),
      h.found
          ∙ ap (λ y. Some y) (sym m),
    )

-- ---- answers

-- a fact that holds at `Ok`, and what follows of it
pub on_ok : {T E : Type 0} {P Q : Type 0} (r : Result T E) → OnOk r P → (P → Q) → OnOk r Q
on_ok (Ok x) h f = f h
on_ok (Err x) h f = h
