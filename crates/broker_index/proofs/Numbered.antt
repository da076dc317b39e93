-- Lists by number, in a map.
use Rattle.std.proofs.Common.{◌≡◌, ◌≢◌, ℕ, false, true, eqb, List, [], ◌∷◌, ◌++◌, length, map}
use Rattle.std.proofs.Common.{Option, Some, None, Result, Ok, Err, is_some}
use Rattle.std.proofs.Common.{refl, sym, ap, ◌∙◌, inl, inr, arith}
use Rattle.std.specs.Prelude.{Vec, OnErr}
use Rattle.std.specs.Global.{Global}
use Rattle.std.specs.Option.{unwrap_or}
use Rattle.std.specs.Ordering.{nat_cmp, is_eq}
use Rattle.std.specs.Map.{lookup, set_value}
use Rattle.std.specs.BTreeMap.{BTreeMap, get, is_at, Updates}
use Rattle.std.proofs.lemmas.Bool.{cases_Bool, cases_order, cond-true, cond-false, lt-ltb, le-ltb, eq-eqb, ne_eqb}
use Rattle.std.proofs.lemmas.Bool.{true≢false, eqb-true}
use Rattle.broker_index.specs.declared.places.KeyedPlace.{KeyedPlace}
use Rattle.broker_index.specs.Index.{Sets}
use Rattle.broker_index.specs.Listed.{NoneIsEmpty}

-- two numbers tie where they are equal
tie-nat_cmp : (n q : ℕ) → is_eq (nat_cmp n q) ≡ eqb n q
tie-nat_cmp n q =
    elim (cases_order n q) [
      | inl same ↦ rw (le-ltb n q (omega arith), eq-eqb n q same) refl
      | inr apart ↦ elim apart [
        | inl below ↦ rw (lt-ltb n q below, ne_eqb n q (λ e. omega arith)) refl
        | inr above ↦ rw (le-ltb n q (omega arith), ne_eqb n q (λ e. omega arith)) refl
      ]
    ]

module _ {V X : Type 0} (list_of : V → List X) where
  -- entries with what stands in their values
  abbrev pub listed : List (ℕ × V) → List (ℕ × List X)
  listed es = map (λ e. (e.0, list_of e.1)) es

  -- the list of a value, or none
  abbrev pub list_in : Option V → List X
  list_in None = []
  list_in (Some v) = list_of v

  pub lookup-listed : (n : ℕ) (es : List (ℕ × V)) → unwrap_or (lookup (λ s. eqb n s) (listed es))
      [] ≡ list_in (lookup (is_at (nat_cmp n)) es)
  lookup-listed n [] = refl
  lookup-listed n (e ∷ es) =
      let tie = tie-nat_cmp n e.0 in
      elim (cases_Bool (eqb n e.0)) [
        | inl same ↦
            ap (λ o. unwrap_or o []) (cond-true (eqb n e.0) (Some (list_of e.1)) (lookup (λ s. eqb n s) (listed es))
            same)
            ∙ sym (ap list_in (cond-true (is_at (nat_cmp n) e.0) (Some e.1) (lookup (is_at (nat_cmp n)) es)
            (tie ∙ same)))
        | inr other ↦
            ap (λ o. unwrap_or o []) (cond-false (eqb n e.0) (Some (list_of e.1)) (lookup (λ s. eqb n s) (listed es))
            other)
            ∙ lookup-listed n es
            ∙ sym (ap list_in (cond-false (is_at (nat_cmp n) e.0) (Some e.1) (lookup (is_at (nat_cmp n)) es)
            (tie ∙ other)))
      ]

  -- a change of the map at one number is one of the lists by number
  pub Sets-listed : (n : ℕ) (old new : BTreeMap ℕ V) (w : Option V) → Updates nat_cmp old new n w
      → Sets (λ s. unwrap_or (lookup (λ k. eqb s k) (listed old.entries)) [])
      (λ s. unwrap_or (lookup (λ k. eqb s k) (listed new.entries)) []) n (list_in w)
  Sets-listed n old new w updates = record {
    at = lookup-listed n new.entries ∙ ap list_in updates.1;
    others = λ other differs.
        lookup-listed other new.entries
        ∙ ap list_in (updates.2 other (tie-nat_cmp n other ∙ ne_eqb n other (λ e. differs (sym e))))
        ∙ sym (lookup-listed other old.entries);
  }

  -- a value with the same list changes nothing
  pub listed-set_value : (n : ℕ) (es : List (ℕ × V)) (v w : V) → lookup (is_at (nat_cmp n)) es ≡ Some v
      → list_of w ≡ list_of v
      → listed (set_value (is_at (nat_cmp n)) es w) ≡ listed es
  listed-set_value n [] v w found same = refl
  listed-set_value n (e ∷ es) v w found same =
      elim (cases_Bool (is_at (nat_cmp n) e.0)) [
        | inl is ↦
            let here = sym (cond-true (is_at (nat_cmp n) e.0) (Some e.1) (lookup (is_at (nat_cmp n)) es) is) ∙ found in
            let value : e.1 ≡ v = cc in
            ap listed (cond-true (is_at (nat_cmp n) e.0) ((e.0, w) ∷ es) (e ∷ set_value (is_at (nat_cmp n)) es w) is)
            ∙ ap (λ l. (e.0, l) ∷ listed es) (same ∙ ap list_of (sym value))
        | inr isnt ↦
            ap listed (cond-false (is_at (nat_cmp n) e.0) ((e.0, w) ∷ es) (e ∷ set_value (is_at (nat_cmp n)) es w) isnt)
            ∙ ap (λ ys. (e.0, list_of e.1) ∷ ys) (listed-set_value n es v w
            (sym (cond-false (is_at (nat_cmp n) e.0) (Some e.1) (lookup (is_at (nat_cmp n)) es) isnt) ∙ found) same)
      ]

  -- whether a number has a list
  pub is_some-listed : (n : ℕ) (es : List (ℕ × V))
      → is_some (lookup (λ s. eqb n s) (listed es)) ≡ is_some (lookup (is_at (nat_cmp n)) es)
  is_some-listed n [] = refl
  is_some-listed n (e ∷ es) =
      let tie = tie-nat_cmp n e.0 in
      elim (cases_Bool (eqb n e.0)) [
        | inl same ↦
            ap is_some (cond-true (eqb n e.0) (Some (list_of e.1)) (lookup (λ s. eqb n s) (listed es)) same)
            ∙ sym (ap is_some (cond-true (is_at (nat_cmp n) e.0) (Some e.1) (lookup (is_at (nat_cmp n)) es)
            (tie ∙ same)))
        | inr other ↦
            ap is_some (cond-false (eqb n e.0) (Some (list_of e.1)) (lookup (λ s. eqb n s) (listed es)) other)
            ∙ is_some-listed n es
            ∙ sym (ap is_some (cond-false (is_at (nat_cmp n) e.0) (Some e.1) (lookup (is_at (nat_cmp n)) es)
            (tie ∙ other)))
      ]

-- the places that stand in a vector
abbrev pub items_of : Vec KeyedPlace Global → List KeyedPlace
items_of v = v.items

-- what has no value is none
pub none_from : {X : Type 0} (o : Option X) → is_some o ≡ false → o ≡ None
none_from None is = refl
none_from (Some x) is = absurd (true≢false is)

-- a fact for an error, where it holds anyway
pub on_err : {X E : Type 0} (r : Result X E) (P : Type 0) → P → OnErr r P
on_err (Ok x) P p = tt
on_err (Err e) P p = p

-- ---- lists that aren't empty

-- whether a vector has no length tells whether its list is empty
pub empty_from : (v : Vec KeyedPlace Global) → eqb v.len 0 ≡ true → v.items ≡ []
empty_from v is = none v.items (ap (λ n. eqb n 0) (sym v.ok.0) ∙ is)
  where
    none : (xs : List KeyedPlace) → eqb (length xs) 0 ≡ true → xs ≡ []
    none [] same = refl
    none (x ∷ xs) same = absurd (omega (arith, eqb-true (length (x ∷ xs)) 0 same))

-- a list whose length isn't 0 isn't empty
pub filled_from : (v : Vec KeyedPlace Global) → eqb v.len 0 ≡ false → v.items ≢ []
filled_from v is empty =
    true≢false (sym (ap (λ n. eqb n 0) v.ok.0 ∙ ap (λ xs. eqb (length xs) 0) empty) ∙ is)

-- one more makes a list that isn't empty
pub filled_by : {X : Type 0} (xs : List X) (x : X) → (xs ++ x ∷ []) ≢ []
filled_by [] x empty = let never : (x ∷ []) ≡ [] = empty in cc
filled_by (y ∷ ys) x empty = let never : (y ∷ (ys ++ x ∷ [])) ≡ [] = empty in cc

-- in an empty map no list is empty
pub none_empty-none : (m : BTreeMap ℕ (Vec KeyedPlace Global)) → m.entries ≡ [] → NoneIsEmpty m
none_empty-none m none q v found =
    let never : None ≡ Some v = sym (ap (λ es. lookup (is_at (nat_cmp q)) es) none) ∙ found in absurd (cc)

-- nothing has changed
pub none_empty-same : (old new : BTreeMap ℕ (Vec KeyedPlace Global)) → new.entries ≡ old.entries → NoneIsEmpty old
    → NoneIsEmpty new
none_empty-same old new same none q v found =
    none q v (sym (ap (λ es. lookup (is_at (nat_cmp q)) es) same) ∙ found)

-- one list changes, whatever stood there between, to one that isn't empty, or goes
pub none_empty-updated : (n : ℕ) (old between new : BTreeMap ℕ (Vec KeyedPlace Global)) (w : Option (Vec KeyedPlace Global))
    → ((q : ℕ) → is_at (nat_cmp n) q ≡ false → get nat_cmp between q ≡ get nat_cmp old q)
    → Updates nat_cmp between new n w
    → ((v : Vec KeyedPlace Global) → w ≡ Some v → v.items ≢ []) → NoneIsEmpty old → NoneIsEmpty new
none_empty-updated n old between new w others updates filled none q v found =
    elim (cases_Bool (is_at (nat_cmp n) q)) [
      | inl is ↦ filled v (sym (cond-true (is_at (nat_cmp n) q) w (get nat_cmp between q) is) ∙ sym (updates.0 q) ∙ found)
      | inr isnt ↦ none q v (sym (updates.2 q isnt ∙ others q isnt) ∙ found)
    ]

-- a list is written that isn't empty
pub none_empty-written : (n : ℕ) (old new : BTreeMap ℕ (Vec KeyedPlace Global)) (w : Vec KeyedPlace Global)
    → Updates nat_cmp old new n (Some w) → w.items ≢ [] → NoneIsEmpty old → NoneIsEmpty new
none_empty-written n old new w updates filled none =
    none_empty-updated n old old new (Some w) (λ q isnt. refl) updates
    (λ v is empty. let same : w ≡ v = cc in filled (ap items_of same ∙ empty)) none
