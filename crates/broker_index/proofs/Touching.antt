-- One value of a slab, found by its number, is changed or taken out.
use Rattle.std.proofs.Common.{◌≡◌, ◌≢◌, ℕ, suc, Bool, true, false, not, ◌&&◌, cond, eqb, List, [], ◌∷◌, map, filter}
use Rattle.std.proofs.Common.{get_or, set, Option, Some, None, refl, sym, ap, ◌∙◌, inl, inr}
use Rattle.std.specs.List.{find, list_all, All}
use Rattle.std.proofs.lemmas.Bool.{cases_Bool, cond-true, cond-false, and_from, ne_eqb, eq-eqb, not-true}
use Rattle.std.proofs.lemmas.Bool.{not_from_false, not_from_true, false≢true}
use Rattle.std.proofs.lemmas.List.Elements.{All-head, All-tail, All-nil, All-cons}
use Rattle.broker_index.specs.Slots.{in_order, is_rising}
use Rattle.broker_index.proofs.Sorting.{list_all-put_in, map_same, filter_same, rising-map}
use Rattle.broker_index.proofs.Slots.{in_order-change, in_order-remove, find-slot, find-no_slot}

module _ {T : Type 0} where
  -- each that passes, as a test and as a fact
  pub list_all-from_All : (p : T → Bool) (P : T → Type 0) → ((x : T) → P x → p x ≡ true) → (xs : List T) → All P xs
      → list_all p xs ≡ true
  list_all-from_All p P test [] all = refl
  list_all-from_All p P test (x ∷ xs) all = and_from (p x) (list_all p xs) (test x (All-head P x xs all))
      (list_all-from_All p P test xs (All-tail P x xs all))

  pub All-from_list_all : (p : T → Bool) (P : T → Type 0) → ((x : T) → p x ≡ true → P x) → (xs : List T)
      → list_all p xs ≡ true → All P xs
  All-from_list_all p P fact [] all = All-nil P
  All-from_list_all p P fact (x ∷ xs) all =
      elim (cases_Bool (p x)) [
        | inl is ↦ All-cons P x xs (fact x is) (All-from_list_all p P fact xs
            (sym (cond-and (p x) (list_all p xs) is) ∙ all))
        | inr isnt ↦ absurd (false≢true (sym (not_and (p x) (list_all p xs) isnt) ∙ all))
      ]
    where
      cond-and : (a b : Bool) → a ≡ true → (a && b) ≡ b
      cond-and true b is = refl
      cond-and false b is = absurd (false≢true is)

      not_and : (a b : Bool) → a ≡ false → (a && b) ≡ false
      not_and true b isnt = absurd (false≢true (sym isnt))
      not_and false b isnt = refl

module _ {T : Type 0} (number_of : T → ℕ) where
  -- the value of this number, changed
  abbrev pub touch : ℕ → (T → T) → T → T
  touch number g z = cond (eqb (number_of z) number) (g z) z

  -- whether a value does not have this number
  abbrev pub is_other : ℕ → T → Bool
  is_other number z = not (eqb (number_of z) number)

  -- no value of these slots has this number
  abbrev pub HasNone : List (Option T) → ℕ → Type 0
  HasNone slots number = (key : ℕ) (v : T) → get_or slots key None ≡ Some v → number_of v ≢ number

  pub touch-keeps : (number : ℕ) (g : T → T) → ((z : T) → number_of (g z) ≡ number_of z) → (z : T)
      → number_of (touch number g z) ≡ number_of z
  touch-keeps number g keeps z =
      elim (cases_Bool (eqb (number_of z) number)) [
        | inl is ↦ ap number_of (cond-true (eqb (number_of z) number) (g z) z is) ∙ keeps z
        | inr isnt ↦ ap number_of (cond-false (eqb (number_of z) number) (g z) z isnt)
      ]

  -- the slot of the value of this number is written
  pub in_order-touch : (g : T → T) → ((z : T) → number_of (g z) ≡ number_of z)
      → (slots : List (Option T)) (key number : ℕ) (v w : T)
      → get_or slots key None ≡ Some v → number_of v ≡ number → w ≡ g v
      → is_rising number_of (in_order number_of slots) ≡ true
      → in_order number_of (set slots key (Some w)) ≡ map (touch number g) (in_order number_of slots)
  in_order-touch g keeps slots key number v w found has written rising =
      in_order-change number_of (touch number g) (touch-keeps number g keeps) slots key v w found rising
      (cond-true (eqb (number_of v) number) (g v) v (eq-eqb (number_of v) number has) ∙ sym written)
      (λ z apart. cond-false (eqb (number_of z) number) (g z) z (ap (λ n. eqb (number_of z) n) (sym has)
      ∙ not-true _ apart))

  -- what each slot's value passes, all values pass
  pub all_in_order : (p : T → Bool) (slots : List (Option T))
      → ((key : ℕ) (v : T) → get_or slots key None ≡ Some v → p v ≡ true)
      → list_all p (in_order number_of slots) ≡ true
  all_in_order p [] each = refl
  all_in_order p (None ∷ slots) each = all_in_order p slots (λ key. each (suc key))
  all_in_order p (Some x ∷ slots) each =
      list_all-put_in number_of p x (in_order number_of slots)
      ∙ and_from (p x) _ (each 0 x refl) (all_in_order p slots (λ key. each (suc key)))

  -- none has the number: nothing changes
  pub in_order-untouched : (g : T → T) (slots : List (Option T)) (number : ℕ) → HasNone slots number
      → map (touch number g) (in_order number_of slots) ≡ in_order number_of slots
  in_order-untouched g slots number none =
      map_same (is_other number) (touch number g) (λ z other. cond-false (eqb (number_of z) number) (g z) z
      (not-true _ other))
      (in_order number_of slots) (all_in_order (is_other number) slots (λ key v found. not_from_false _
      (ne_eqb _ _ (none key v found))))

  -- the slot of the value of this number is emptied
  pub in_order-taken : (slots : List (Option T)) (key number : ℕ) (v : T) → get_or slots key None ≡ Some v
      → number_of v ≡ number
      → is_rising number_of (in_order number_of slots) ≡ true
      → in_order number_of (set slots key None) ≡ filter (is_other number) (in_order number_of slots)
  in_order-taken slots key number v found has rising =
      in_order-remove number_of (is_other number) slots key v found rising
      (not_from_true _ (eq-eqb (number_of v) number has))
      (λ z apart. ap (λ n. is_other n z) (sym has) ∙ apart)

  -- none has the number: none is taken out
  pub in_order-not_taken : (slots : List (Option T)) (number : ℕ) → HasNone slots number
      → filter (is_other number) (in_order number_of slots) ≡ in_order number_of slots
  in_order-not_taken slots number none = filter_same (is_other number) (in_order number_of slots)
      (all_in_order (is_other number) slots (λ key v found. not_from_false _ (ne_eqb _ _ (none key v found))))

  -- the value of this number is found
  pub found_in_order : (slots : List (Option T)) (key number : ℕ) (v : T) → get_or slots key None ≡ Some v
      → number_of v ≡ number
      → is_rising number_of (in_order number_of slots) ≡ true
      → find (λ z. eqb (number_of z) number) (in_order number_of slots) ≡ Some v
  found_in_order slots key number v found has rising =
      find-slot number_of (λ z. eqb (number_of z) number) slots key v found rising (eq-eqb (number_of v) number has)
      (λ z apart. ap (eqb (number_of z)) (sym has) ∙ not-true _ apart)

  pub not_found_in_order : (slots : List (Option T)) (number : ℕ) → HasNone slots number
      → find (λ z. eqb (number_of z) number) (in_order number_of slots) ≡ None
  not_found_in_order slots number none = find-no_slot number_of (λ z. eqb (number_of z) number) slots
      (λ key v found. ne_eqb _ _ (none key v found))

  -- the numbers rise after a change
  pub rising-touch : (g : T → T) → ((z : T) → number_of (g z) ≡ number_of z) → (number : ℕ) (xs ys : List T)
      → ys ≡ map (touch number g) xs → is_rising number_of xs ≡ true → is_rising number_of ys ≡ true
  rising-touch g keeps number xs ys changed rising = ap (is_rising number_of) changed
      ∙ rising-map number_of (touch number g) (touch-keeps number g keeps) xs ∙ rising

  itself : (xs : List T) → map (λ z. z) xs ≡ xs
  itself [] = refl
  itself (x ∷ xs) = ap (λ ys. x ∷ ys) (itself xs)

  -- the slot of a value is written with the same value
  pub in_order-kept : (slots : List (Option T)) (key : ℕ) (v w : T) → get_or slots key None ≡ Some v → w ≡ v
      → is_rising number_of (in_order number_of slots) ≡ true
      → in_order number_of (set slots key (Some w)) ≡ in_order number_of slots
  in_order-kept slots key v w found written rising =
      in_order-change number_of (λ z. z) (λ z. refl) slots key v w found rising (sym written) (λ z apart. refl)
      ∙ itself (in_order number_of slots)
