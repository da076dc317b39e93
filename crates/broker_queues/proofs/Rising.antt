-- Lists of values whose numbers rise: finding one, changing one, taking one out.
use Rattle.std.proofs.Common.{◌≡◌, ◌≤◌, ◌<◌, ℕ, ◌+◌, Bool, true, false, not, cond, ◌&&◌, List, []}
use Rattle.std.proofs.Common.{◌∷◌, ◌++◌, map, Option, Some, None, refl, sym, ap, ◌∙◌, arith, inl, inr}
use Rattle.std.specs.Prelude.{◌==◌, nat_le, find, filter}
use Rattle.std.specs.List.{sum_by, list_any}
use Rattle.std.specs.Option.{option_or, option_map}
use Rattle.std.proofs.lemmas.Bool.{and_parts, and_from, leb-true, eqb-true, ne_eqb, eq-eqb, cases_Bool, le-leb}
use Rattle.std.proofs.lemmas.List.Sums.{sum_by-cons}
use Rattle.std.proofs.lemmas.List.Folds.{find-append}
use Rattle.broker_queues.specs.Parts.Facts.{rise}

module _ {X : Type 0} (number : X → ℕ) where
  -- the first value of a number
  abbrev pub at : ℕ → List X → Option X
  at n xs = find (λ x. number x == n) xs

  -- a value changed, where it has this number
  abbrev pub edit : ℕ → (X → X) → X → X
  edit n change x = cond (number x == n) (change x) x

  -- whether it has another number
  abbrev pub other_than : ℕ → X → Bool
  other_than n x = not (number x == n)

  -- ---- where numbers are

  -- none has a number below where they begin
  pub none_below : (low n : ℕ) (xs : List X) → rise number low xs ≡ true → n < low → at n xs ≡ None
  none_below low n [] rises below = refl
  none_below low n (x ∷ xs) rises below =
      let parts = and_parts (nat_le low (number x)) (rise number (number x + 1) xs) rises in
      let high : low ≤ number x = leb-true low (number x) parts.0 in
      let other : (number x == n) ≡ false = ne_eqb (number x) n (λ same. omega arith) in
      rw other (none_below (number x + 1) n xs parts.1 (omega arith))

  pub at_number : (n : ℕ) (xs : List X) (y : X) → at n xs ≡ Some y → number y ≡ n
  at_number n [] y found = let no : None ≡ Some y = found in cc
  at_number n (x ∷ xs) y found =
      elim (cases_Bool (number x == n)) [
        | inl on ↦ let same : Some x ≡ Some y =
            rw on at found in let e : x ≡ y = cc in ap number (sym e) ∙ eqb-true (number x) n on
        | inr off ↦ at_number n xs y (rw off at found)
      ]

  pub at_high : (low n : ℕ) (xs : List X) (y : X) → rise number low xs ≡ true → at n xs ≡ Some y → low ≤ n
  at_high low n [] y rises found = let no : None ≡ Some y = found in cc
  at_high low n (x ∷ xs) y rises found =
      let parts = and_parts (nat_le low (number x)) (rise number (number x + 1) xs) rises in
      let high : low ≤ number x = leb-true low (number x) parts.0 in
      elim (cases_Bool (number x == n)) [
        | inl on ↦ omega (arith, eqb-true (number x) n on, high)
        | inr off ↦ omega (arith, at_high (number x + 1) n xs y parts.1 (rw off at found), high)
      ]

  pub rise_lower : (low high : ℕ) (xs : List X) → low ≤ high → rise number high xs ≡ true → rise number low xs ≡ true
  rise_lower low high [] le rises = refl
  rise_lower low high (x ∷ xs) le rises =
      let parts = and_parts (nat_le high (number x)) (rise number (number x + 1) xs) rises in
      let h : high ≤ number x = leb-true high (number x) parts.0 in
      and_from (nat_le low (number x)) (rise number (number x + 1) xs) (le-leb low (number x) (omega arith)) parts.1

  -- ---- one is changed

  pub edit_none : (n : ℕ) (change : X → X) (xs : List X) → at n xs ≡ None → map (edit n change) xs ≡ xs
  edit_none n change [] none = refl
  edit_none n change (x ∷ xs) none =
      elim (cases_Bool (number x == n)) [
        | inl on ↦ let no : Some x ≡ None = rw on at none in cc
        | inr off ↦ rw off (ap (λ l. x ∷ l) (edit_none n change xs (rw off at none)))
      ]

  -- the change keeps numbers
  abbrev pub Keeps : (X → X) → Type 0
  Keeps change = (x : X) → number (change x) ≡ number x

  number_edit : (n : ℕ) (change : X → X) → Keeps change → (x : X) → number (edit n change x) ≡ number x
  number_edit n change keeps x =
      elim (cases_Bool (number x == n)) [ inl on ↦ rw on (keeps x) | inr off ↦ rw off refl ]

  pub at_edit : (n : ℕ) (change : X → X) → Keeps change → (xs : List X) (y : X) → at n xs ≡ Some y
      → at n (map (edit n change) xs) ≡ Some (change y)
  at_edit n change keeps [] y found = let no : None ≡ Some y = found in cc
  at_edit n change keeps (x ∷ xs) y found =
      elim (cases_Bool (number x == n)) [
        | inl on ↦ let same : Some x ≡ Some y =
            rw on at found in rw (on, keeps x, on) (ap (λ o. option_map change o) same)
        | inr off ↦ rw (off, off) (at_edit n change keeps xs y (rw off at found))
      ]

  pub at_edit_other : (n m : ℕ) (change : X → X) → Keeps change → (m ≡ n → ⊥) → (xs : List X)
      → at m (map (edit n change) xs) ≡ at m xs
  at_edit_other n m change keeps other [] = refl
  at_edit_other n m change keeps other (x ∷ xs) =
      let rest = at_edit_other n m change keeps other xs in
      elim (cases_Bool (number x == n)) [
        | inl on ↦
            let is : number x ≡ n = eqb-true (number x) n on in
            let not_m : (number x == m) ≡ false = ne_eqb (number x) m (λ same. other (sym same ∙ is)) in
            rw (on, keeps x, not_m) rest
        | inr off ↦ rw off (ap (λ r. cond (number x == m) (Some x) r) rest)
      ]

  pub rise_edit : (n : ℕ) (change : X → X) → Keeps change → (low : ℕ) (xs : List X)
      → rise number low (map (edit n change) xs) ≡ rise number low xs
  rise_edit n change keeps low [] = refl
  rise_edit n change keeps low (x ∷ xs) =
      rw (number_edit n change keeps x) (ap (λ r. nat_le low (number x) && r)
      (rise_edit n change keeps (number x + 1) xs))

  pub sum_edit : (w : X → ℕ) (n : ℕ) (change : X → X) (low : ℕ) (xs : List X) (y : X) → rise number low xs ≡ true
      → at n xs ≡ Some y
      → sum_by w (map (edit n change) xs) + w y ≡ sum_by w xs + w (change y)
  sum_edit w n change low [] y rises found = let no : None ≡ Some y = found in cc
  sum_edit w n change low (x ∷ xs) y rises found =
      let parts = and_parts (nat_le low (number x)) (rise number (number x + 1) xs) rises in
      elim (cases_Bool (number x == n)) [
        | inl on ↦
            let is : number x ≡ n = eqb-true (number x) n on in
            let same : Some x ≡ Some y = rw on at found in
            let e : x ≡ y = cc in
            let none : at n xs ≡ None = none_below (number x + 1) n xs parts.1 (omega arith) in
            rw (on, edit_none n change xs none, ← e) (omega (arith, sum_by-cons w (change x) xs, sum_by-cons w x xs))
        | inr off ↦
            rw off (omega (
              arith,
              sum_by-cons w x (map (edit n change) xs),
              sum_by-cons w x xs,
              sum_edit w n change (number x + 1) xs y parts.1 (rw off at found),
            ))
      ]

  -- ---- one is taken out

  pub filter_none : (n : ℕ) (xs : List X) → at n xs ≡ None → filter (other_than n) xs ≡ xs
  filter_none n [] none = refl
  filter_none n (x ∷ xs) none =
      elim (cases_Bool (number x == n)) [
        | inl on ↦ let no : Some x ≡ None = rw on at none in cc
        | inr off ↦ rw off (ap (λ l. x ∷ l) (filter_none n xs (rw off at none)))
      ]

  pub at_filter : (n : ℕ) (xs : List X) → at n (filter (other_than n) xs) ≡ None
  at_filter n [] = refl
  at_filter n (x ∷ xs) =
      elim (cases_Bool (number x == n)) [ inl on ↦ rw on (at_filter n xs) | inr off ↦ rw (off, off) (at_filter n xs) ]

  pub at_filter_other : (n m : ℕ) → (m ≡ n → ⊥) → (xs : List X) → at m (filter (other_than n) xs) ≡ at m xs
  at_filter_other n m other [] = refl
  at_filter_other n m other (x ∷ xs) =
      let rest = at_filter_other n m other xs in
      elim (cases_Bool (number x == n)) [
        | inl on ↦
            let is : number x ≡ n = eqb-true (number x) n on in
            let not_m : (number x == m) ≡ false = ne_eqb (number x) m (λ same. other (sym same ∙ is)) in
            rw (on, not_m) rest
        | inr off ↦ rw off (ap (λ r. cond (number x == m) (Some x) r) rest)
      ]

  pub rise_filter : (p : X → Bool) (low : ℕ) (xs : List X) → rise number low xs ≡ true
      → rise number low (filter p xs) ≡ true
  rise_filter p low [] rises = refl
  rise_filter p low (x ∷ xs) rises =
      let parts = and_parts (nat_le low (number x)) (rise number (number x + 1) xs) rises in
      let high : low ≤ number x = leb-true low (number x) parts.0 in
      let rest = rise_filter p (number x + 1) xs parts.1 in
      elim (cases_Bool (p x)) [
        | inl on ↦ rw on (and_from (nat_le low (number x)) (rise number (number x + 1) (filter p xs)) parts.0 rest)
        | inr off ↦ rw off (rise_lower low (number x + 1) (filter p xs) (omega arith) rest)
      ]

  pub sum_filter : (w : X → ℕ) (n low : ℕ) (xs : List X) (y : X) → rise number low xs ≡ true → at n xs ≡ Some y
      → sum_by w (filter (other_than n) xs) + w y ≡ sum_by w xs
  sum_filter w n low [] y rises found = let no : None ≡ Some y = found in cc
  sum_filter w n low (x ∷ xs) y rises found =
      let parts = and_parts (nat_le low (number x)) (rise number (number x + 1) xs) rises in
      elim (cases_Bool (number x == n)) [
        | inl on ↦
            let is : number x ≡ n = eqb-true (number x) n on in
            let same : Some x ≡ Some y = rw on at found in
            let e : x ≡ y = cc in
            let none : at n xs ≡ None = none_below (number x + 1) n xs parts.1 (omega arith) in
            rw (on, filter_none n xs none, ← e) (omega (arith, sum_by-cons w x xs))
        | inr off ↦
            rw off (omega (
              arith,
              sum_by-cons w x (filter (other_than n) xs),
              sum_by-cons w x xs,
              sum_filter w n (number x + 1) xs y parts.1 (rw off at found),
            ))
      ]

  -- ---- one comes behind all others

  pub at_push : (n : ℕ) (xs : List X) (x : X)
      → at n (xs ++ x ∷ []) ≡ option_or (at n xs) (cond (number x == n) (Some x) None)
  at_push n xs x = find-append (λ y. number y == n) xs (x ∷ [])

  -- what is behind the first value is in the list
  pub behind : (low n : ℕ) (y z : X) (xs : List X) → rise number low (y ∷ xs) ≡ true → at n xs ≡ Some z
      → at n (y ∷ xs) ≡ Some z
  behind low n y z xs rises found =
      let parts = and_parts (nat_le low (number y)) (rise number (number y + 1) xs) rises in
      let other : (number y == n) ≡ false =
      ne_eqb (number y) n (λ same. omega (arith, at_high (number y + 1) n xs z parts.1 found)) in
      rw other found

  pub rise_push : (low : ℕ) (xs : List X) (x : X) → rise number low xs ≡ true → low ≤ number x
      → ((n : ℕ) (y : X) → at n xs ≡ Some y → n < number x) → rise number low (xs ++ x ∷ []) ≡ true
  rise_push low [] x rises high below = and_from (nat_le low (number x)) true (le-leb low (number x) high) refl
  rise_push low (y ∷ xs) x rises high below =
      let parts = and_parts (nat_le low (number y)) (rise number (number y + 1) xs) rises in
      let itself : (number y == number y) ≡ true = eq-eqb (number y) (number y) refl in
      let first : at (number y) (y ∷ xs) ≡ Some y = rw itself refl in
      let lower : number y < number x = below (number y) y first in
      and_from (nat_le low (number y)) (rise number (number y + 1) (xs ++ x ∷ [])) parts.0
      (rise_push (number y + 1) xs x parts.1 (omega arith) (λ n z found. below n z (behind low n y z xs rises found)))

  -- ---- functions that agree on each value

  pub map_same : {Y : Type 0} (g h : X → Y) (low : ℕ) (xs : List X) → rise number low xs ≡ true
      → ((x : X) → at (number x) xs ≡ Some x → g x ≡ h x) → map g xs ≡ map h xs
  map_same g h low [] rises same = refl
  map_same g h low (x ∷ xs) rises same =
      let parts = and_parts (nat_le low (number x)) (rise number (number x + 1) xs) rises in
      let itself : (number x == number x) ≡ true = eq-eqb (number x) (number x) refl in
      let first : at (number x) (x ∷ xs) ≡ Some x = rw itself refl in
      let head : g x ≡ h x = same x first in
      let rest : map g xs ≡ map h xs = map_same g h (number x + 1) xs parts.1 (λ y found. same y (behind low
      (number y) x y xs rises found)) in
      cc

  -- a change of other things than numbers
  pub rise_map : (g : X → X) → Keeps g → (low : ℕ) (xs : List X) → rise number low (map g xs) ≡ rise number low xs
  rise_map g keeps low [] = refl
  rise_map g keeps low (x ∷ xs) =
      rw (keeps x) (ap (λ r. nat_le low (number x) && r) (rise_map g keeps (number x + 1) xs))

  -- ---- some value that passes a test

  -- a value that passes a test, where it is found
  pub record IsAmong (test : X → Bool) (xs : List X) : Type 0 where
    pub value : X
    pub found : at (number value) xs ≡ Some value
    pub passes : test value ≡ true

  pub any_at : (test : X → Bool) (low : ℕ) (xs : List X) → rise number low xs ≡ true → list_any test xs ≡ true
      → IsAmong test xs
  any_at test low [] rises any = let no : false ≡ true = any in cc
  any_at test low (x ∷ xs) rises any =
      let itself : (number x == number x) ≡ true = eq-eqb (number x) (number x) refl in
      let parts = and_parts (nat_le low (number x)) (rise number (number x + 1) xs) rises in
      elim (cases_Bool (test x)) [
        | inl on ↦ record { value = x; found = rw itself refl; passes = on }
        | inr off ↦
            let rest = any_at test (number x + 1) xs parts.1 (rw off at any) in
            record {
              value = rest.value;
              found = behind low (number rest.value) x rest.value xs rises rest.found;
              passes = rest.passes;
            }
      ]

  pub any_from_at : (test : X → Bool) (n : ℕ) (xs : List X) (y : X) → at n xs ≡ Some y → test y ≡ true
      → list_any test xs ≡ true
  any_from_at test n [] y found on = let no : None ≡ Some y = found in cc
  any_from_at test n (x ∷ xs) y found on =
      elim (cases_Bool (number x == n)) [
        | inl here ↦ let same : Some x ≡ Some y = rw here at found in let e : x ≡ y = cc in rw (e, on) refl
        | inr off ↦ elim (cases_Bool (test x)) [
          | inl first ↦ rw first refl
          | inr later ↦ rw later (any_from_at test n xs y (rw off at found) on)
        ]
      ]

  -- a sum of nothing
  pub sum_zero : (w : X → ℕ) (low : ℕ) (xs : List X) → rise number low xs ≡ true
      → ((n : ℕ) (x : X) → at n xs ≡ Some x → w x ≡ 0) → sum_by w xs ≡ 0
  sum_zero w low [] rises zeros = refl
  sum_zero w low (x ∷ xs) rises zeros =
      let itself : (number x == number x) ≡ true = eq-eqb (number x) (number x) refl in
      let first : at (number x) (x ∷ xs) ≡ Some x = rw itself refl in
      let parts = and_parts (nat_le low (number x)) (rise number (number x + 1) xs) rises in
      let rest = sum_zero w (number x + 1) xs parts.1 (λ n y found. zeros n y (behind low n x y xs rises found)) in
      omega (arith, sum_by-cons w x xs, zeros (number x) x first, rest)

  -- ---- the first value that passes a test

  -- the first that passes has the lowest number
  pub first_least : (test : X → Bool) (low : ℕ) (xs : List X) (p q : X) (b : ℕ) → rise number low xs ≡ true
      → find test xs ≡ Some p
      → at b xs ≡ Some q → test q ≡ true → number p ≤ b
  first_least test low [] p q b rises first found on = let none : None ≡ Some p = first in cc
  first_least test low (x ∷ xs) p q b rises first found on =
      let parts = and_parts (nat_le low (number x)) (rise number (number x + 1) xs) rises in
      elim (cases_Bool (test x)) [
        | inl here ↦
            let same : Some x ≡ Some p = rw here at first in
            let e : x ≡ p = cc in
            let all : number x ≤ b = at_high (number x) b (x ∷ xs) q
            (and_from (nat_le (number x) (number x)) (rise number (number x + 1) xs) (le-leb (number x) (number x)
            (omega arith)) parts.1) found in
            rw (← e) all
        | inr later ↦ elim (cases_Bool (number x == b)) [
          | inl is ↦
              let same : Some x ≡ Some q = rw is at found in
              let e : x ≡ q = cc in
              let never : false ≡ true = sym later ∙ rw e on in cc
          | inr off ↦ first_least test (number x + 1) xs p q b parts.1 (rw later at first) (rw off at found) on
        ]
      ]

  -- what passes and has the lowest number is the first that passes
  pub least_first : (test : X → Bool) (low : ℕ) (xs : List X) (s : X) (a : ℕ) → rise number low xs ≡ true
      → at a xs ≡ Some s
      → test s ≡ true
      → ((b : ℕ) (t : X) → at b xs ≡ Some t → test t ≡ true → a ≤ b) → find test xs ≡ Some s
  least_first test low [] s a rises found on least = let none : None ≡ Some s = found in cc
  least_first test low (x ∷ xs) s a rises found on least =
      let parts = and_parts (nat_le low (number x)) (rise number (number x + 1) xs) rises in
      let itself : (number x == number x) ≡ true = eq-eqb (number x) (number x) refl in
      elim (cases_Bool (number x == a)) [
        | inl is ↦
            let same : Some x ≡ Some s = rw is at found in
            let e : x ≡ s = cc in
            let here : test x ≡ true = rw e on in
            rw here same
        | inr off ↦
            let rest : at a xs ≡ Some s = rw off at found in
            elim (cases_Bool (test x)) [
              | inl here ↦ absurd (let below : a ≤ number x = least (number x) x (rw itself refl) here in
                  omega (arith, at_high (number x + 1) a xs s parts.1 rest, below))
              | inr later ↦ rw later (least_first test (number x + 1) xs s a parts.1 rest on
                  (λ b t there passes. least b t (behind low b x t xs rises there) passes))
            ]
      ]

  -- ---- what is before a number, and behind it

  abbrev pub front_of : ℕ → List X → List X
  front_of n [] = []
  front_of n (x ∷ xs) = cond (number x == n) [] (x ∷ front_of n xs)

  abbrev pub back_of : ℕ → List X → List X
  back_of n [] = []
  back_of n (x ∷ xs) = cond (number x == n) xs (back_of n xs)

  pub split_at : (n : ℕ) (xs : List X) (y : X) → at n xs ≡ Some y → xs ≡ front_of n xs ++ y ∷ back_of n xs
  split_at n [] y found = let none : None ≡ Some y = found in cc
  split_at n (x ∷ xs) y found =
      elim (cases_Bool (number x == n)) [
        | inl on ↦ let same : Some x ≡ Some y = rw on at found in let e : x ≡ y = cc in rw on (ap (λ z. z ∷ xs) e)
        | inr off ↦ rw off (ap (λ l. x ∷ l) (split_at n xs y (rw off at found)))
      ]

  pub edit_split : (n : ℕ) (change : X → X) (low : ℕ) (xs : List X) (y : X) → rise number low xs ≡ true
      → at n xs ≡ Some y
      → map (edit n change) xs ≡ front_of n xs ++ change y ∷ back_of n xs
  edit_split n change low [] y rises found = let none : None ≡ Some y = found in cc
  edit_split n change low (x ∷ xs) y rises found =
      let parts = and_parts (nat_le low (number x)) (rise number (number x + 1) xs) rises in
      elim (cases_Bool (number x == n)) [
        | inl on ↦
            let is : number x ≡ n = eqb-true (number x) n on in
            let same : Some x ≡ Some y = rw on at found in
            let e : x ≡ y = cc in
            let none : at n xs ≡ None = none_below (number x + 1) n xs parts.1 (omega arith) in
            rw (on, edit_none n change xs none) (ap (λ z. change z ∷ xs) e)
        | inr off ↦ rw off (ap (λ l. x ∷ l) (edit_split n change (number x + 1) xs y parts.1 (rw off at found)))
      ]

  pub rise_front : (n low : ℕ) (xs : List X) → rise number low xs ≡ true → rise number low (front_of n xs) ≡ true
  rise_front n low [] rises = refl
  rise_front n low (x ∷ xs) rises =
      let parts = and_parts (nat_le low (number x)) (rise number (number x + 1) xs) rises in
      elim (cases_Bool (number x == n)) [
        | inl on ↦ rw on refl
        | inr off ↦ rw off (and_from (nat_le low (number x)) (rise number (number x + 1) (front_of n xs)) parts.0
            (rise_front n (number x + 1) xs parts.1))
      ]

  -- what is before a number is in the list, and lower
  pub front_below : (n m low : ℕ) (xs : List X) (y z : X) → rise number low xs ≡ true → at n xs ≡ Some y
      → at m (front_of n xs) ≡ Some z
      → (at m xs ≡ Some z) × (m < n)
  front_below n m low [] y z rises found before = let none : None ≡ Some z = before in cc
  front_below n m low (x ∷ xs) y z rises found before =
      let parts = and_parts (nat_le low (number x)) (rise number (number x + 1) xs) rises in
      elim (cases_Bool (number x == n)) [
        | inl on ↦ let none : None ≡ Some z = rw on at before in cc
        | inr off ↦
            let rest : at n xs ≡ Some y = rw off at found in
            let inner : at m (x ∷ front_of n xs) ≡ Some z = rw off at before in
            elim (cases_Bool (number x == m)) [
              | inl is ↦
                  let e : number x ≡ m = eqb-true (number x) m is in
                  let same : Some x ≡ Some z = rw is at inner in
                  (rw is same, omega (arith, at_high (number x + 1) n xs y parts.1 rest))
              | inr other ↦
                  let deep = front_below n m (number x + 1) xs y z parts.1 rest (rw other at inner) in
                  (rw other deep.0, deep.1)
            ]
      ]

  -- tests that agree on each value
  pub filter_same : (p q : X → Bool) (low : ℕ) (xs : List X) → rise number low xs ≡ true
      → ((x : X) → at (number x) xs ≡ Some x → p x ≡ q x) → filter p xs ≡ filter q xs
  filter_same p q low [] rises same = refl
  filter_same p q low (x ∷ xs) rises same =
      let parts = and_parts (nat_le low (number x)) (rise number (number x + 1) xs) rises in
      let itself : (number x == number x) ≡ true = eq-eqb (number x) (number x) refl in
      let first : at (number x) (x ∷ xs) ≡ Some x = rw itself refl in
      let rest : filter p xs ≡ filter q xs =
      filter_same p q (number x + 1) xs parts.1 (λ y found. same y (behind low (number y) x y xs rises found)) in
      rw (same x first, rest) refl
