-- What the parts tell of a session, and what their book does.
use Rattle.std.proofs.Common.{◌≡◌, ◌≤◌, ◌<◌, ◌+◌, ℕ, Bool, true, false, cond, suc, List, [], ◌∷◌, length}
use Rattle.std.proofs.Common.{Option, Some, None, refl, sym, ap, ◌∙◌, arith, inl, inr}
use Rattle.std.specs.Prelude.{◌==◌, nat_le, find, filter, count_by, is_some}
use Rattle.std.specs.List.{list_any}
use Rattle.std.specs.Option.{option_map}
use Rattle.std.proofs.lemmas.Bool.{cases_Bool, and_parts, eqb-true, eq-eqb, leb-true}
use Rattle.std.proofs.lemmas.List.Sums.{length-filter, sum_by-cons}
use Rattle.broker_book.specs.declared.parts.Accepted.{Accepted}
use Rattle.broker_book.specs.Books.{is_named}
use Rattle.broker_book.specs.Steps.{holder}
use Rattle.broker_index.specs.Index.{Subscriber, is_place_of}
use Rattle.broker_index.specs.declared.places.KeyedPlace.{KeyedPlace}
use Rattle.broker_queues.specs.Parts.Fates.{is_held_at}
use Rattle.broker_queues.specs.Parts.Facts.{rise, subscriber_at, subscriptions_of, lists}
use Rattle.broker_queues.specs.Parts.Storing.{is_named_at, named_by}
use Rattle.broker_queues.specs.Parts.Whole.{Holding, IsSound, book_of}
use Rattle.broker_queues.proofs.Answering.{IsHolder, no_holder, the_holder}
use Rattle.broker_queues.proofs.Finding.{IsMapped, is_mapped, any_map, same_tests}
use Rattle.broker_queues.proofs.Responding.{found_lists, holder_is}
use Rattle.broker_queues.proofs.Rising.{IsAmong, any_at, any_from_at, rise_filter}
use Rattle.broker_queues.proofs.Subscribing.{name_parts}

-- ---- tests and what passes them

-- something is found where something passes
found_any : {A : Type 0} (test : A → Bool) (xs : List A) → is_some (find test xs) ≡ list_any test xs
found_any test [] = refl
found_any test (x ∷ xs) = elim (cases_Bool (test x)) [ inl on ↦ rw on refl | inr off ↦ rw off (found_any test xs) ]

-- ---- names

module _ (h : Holding) (is : IsSound h) (x : ℕ) (i : List ℕ) where
  -- a place of the session whose subscriber has the name
  named_place : list_any (is_named_at h.subscribers x i) (h.sessions x) ≡ true
      → list_any (λ s. is_named x i s.subscription) h.subscribers ≡ true
  named_place any =
      let one : IsAmong (λ p. p.number) (is_named_at h.subscribers x i) (h.sessions x) =
      any_at (λ p. p.number) (is_named_at h.subscribers x i) 0 (h.sessions x) (is.owned_rise x) any in
      by_subscriber one.value.number (subscriber_at one.value.number h.subscribers) refl one.passes
    where
      by_subscriber : (a : ℕ) (o : Option Subscriber) → subscriber_at a h.subscribers ≡ o → named_by x i o ≡ true
          → list_any (λ s. is_named x i s.subscription) h.subscribers ≡ true
      by_subscriber a None there named = let never : false ≡ true = named in cc
      by_subscriber a (Some s) there named =
          any_from_at (λ s. s.age) (λ s. is_named x i s.subscription) a h.subscribers s there named

  -- a subscriber of the name is at a place of the session
  place_named : list_any (λ s. is_named x i s.subscription) h.subscribers ≡ true
      → list_any (is_named_at h.subscribers x i) (h.sessions x) ≡ true
  place_named any =
      let one : IsAmong (λ s. s.age) (λ s. is_named x i s.subscription) h.subscribers =
      any_at (λ s. s.age) (λ s. is_named x i s.subscription) 0 h.subscribers is.ages any in
      let session : one.value.subscription.session ≡ x = (name_parts x i one.value.subscription one.passes).0 in
      let owned : lists one.value.age (h.sessions x) ≡ true =
      ap (λ y. lists one.value.age (h.sessions y)) (sym session) ∙ is.owned one.value.age one.value one.found in
      let place : IsAmong (λ p. p.number) (is_place_of one.value.age) (h.sessions x) =
      any_at (λ p. p.number) (is_place_of one.value.age) 0 (h.sessions x) (is.owned_rise x) owned in
      let same : place.value.number ≡ one.value.age = eqb-true place.value.number one.value.age place.passes in
      let named : is_named_at h.subscribers x i place.value ≡ true =
      ap (λ a. named_by x i (subscriber_at a h.subscribers)) same ∙ ap (named_by x i) one.found ∙ one.passes in
      any_from_at (λ p. p.number) (is_named_at h.subscribers x i) place.value.number (h.sessions x) place.value
      place.found named

  pub asks_name : is_some (find (is_named_at h.subscribers x i) (h.sessions x))
      ≡ list_any (is_named x i) (subscriptions_of h.subscribers)
  asks_name =
      found_any (is_named_at h.subscribers x i) (h.sessions x)
      ∙ same_tests (list_any (is_named_at h.subscribers x i) (h.sessions x))
      (list_any (λ s. is_named x i s.subscription) h.subscribers)
      named_place place_named
      ∙ sym (any_map (is_named x i) (λ s. s.subscription) (λ s. is_named x i s.subscription) (λ s. refl) h.subscribers)

-- ---- deliveries

-- a delivery is found at a subscriber just where the book says that it's out to the session
pub asks_holder : (h : Holding) (accepted : List Accepted) (x number : ℕ) → IsSound h
    → is_some (find (is_held_at h.kept h.subscribers number) (h.sessions x))
    ≡ is_some (holder (book_of h accepted) x number)
asks_holder h accepted x number is = by_place (find (is_held_at h.kept h.subscribers number) (h.sessions x)) refl
  where
    by_place : (o : Option KeyedPlace) → find (is_held_at h.kept h.subscribers number) (h.sessions x) ≡ o
        → is_some o ≡ is_some (holder (book_of h accepted) x number)
    by_place None none = sym (ap is_some (holder_is h accepted x number
        ∙ ap (λ o. option_map (λ (s : Subscriber). s.subscription) o) (no_holder h is x number none)))
    by_place (Some p) found =
        let held : IsHolder h x number p.number =
        the_holder h is x number p found (found_lists (is_held_at h.kept h.subscribers number) (h.sessions x) p found)
        in
        sym (ap is_some (holder_is h accepted x number
        ∙ ap (λ o. option_map (λ (s : Subscriber). s.subscription) o) held.first))

-- ---- how many

module _ {X : Type 0} (number : X → ℕ) where
  any_high : (low n : ℕ) (xs : List X) → rise number low xs ≡ true → list_any (λ x. number x == n) xs ≡ true → low ≤ n
  any_high low n [] rises any = let never : false ≡ true = any in cc
  any_high low n (x ∷ xs) rises any =
      let parts = and_parts (nat_le low (number x)) (rise number (number x + 1) xs) rises in
      let high : low ≤ number x = leb-true low (number x) parts.0 in
      elim (cases_Bool (number x == n)) [
        | inl on ↦ omega (arith, eqb-true (number x) n on, high)
        | inr off ↦ omega (arith, any_high (number x + 1) n xs parts.1 (rw off at any), high)
      ]

  -- none has a number below where they begin
  any_low : (low n : ℕ) (xs : List X) → rise number low xs ≡ true → n < low → list_any (λ x. number x == n) xs ≡ false
  any_low low n xs rises below = elim (cases_Bool (list_any (λ x. number x == n) xs)) [
    | inl on ↦ absurd (omega (arith, any_high low n xs rises on))
    | inr off ↦ off
  ]

  -- a value of this number that passes a test
  pub record IsOf (test : X → Bool) (n : ℕ) (xs : List X) : Type 0 where
    pub value : X
    pub found : find (λ x. number x == n) xs ≡ Some value
    pub passes : test value ≡ true

  -- what passes a test is among those that do
  filter_at : (test : X → Bool) (n : ℕ) (xs : List X) (y : X) → find (λ x. number x == n) xs ≡ Some y → test y ≡ true
      → list_any (λ x. number x == n) (filter test xs) ≡ true
  filter_at test n [] y found on = let never : None ≡ Some y = found in cc
  filter_at test n (x ∷ xs) y found on = elim (cases_Bool (number x == n)) [
    | inl here ↦
        let same : Some x ≡ Some y = rw here at found in
        let e : x ≡ y = cc in
        let passes : test x ≡ true = rw e on in
        rw (passes, here) refl
    | inr off ↦ elim (cases_Bool (test x)) [
      | inl in_it ↦ rw (in_it, off) (filter_at test n xs y (rw off at found) on)
      | inr out ↦ rw out (filter_at test n xs y (rw off at found) on)
    ]
  ]

  -- what is among them passes it
  at_filter : (test : X → Bool) (low n : ℕ) (xs : List X) → rise number low xs ≡ true
      → list_any (λ x. number x == n) (filter test xs) ≡ true → IsOf test n xs
  at_filter test low n [] rises any = let never : false ≡ true = any in cc
  at_filter test low n (x ∷ xs) rises any =
      let parts = and_parts (nat_le low (number x)) (rise number (number x + 1) xs) rises in
      elim (cases_Bool (number x == n)) [
        | inl here ↦ elim (cases_Bool (test x)) [
          | inl in_it ↦ record { value = x; found = rw here refl; passes = in_it }
          | inr out ↦ absurd (omega (
            arith,
            eqb-true (number x) n here,
            any_high (number x + 1) n (filter test xs) (rise_filter number test (number x + 1) xs parts.1)
                (rw out at any),
          ))
        ]
        | inr off ↦ elim (cases_Bool (test x)) [
          | inl in_it ↦
              let deep = at_filter test (number x + 1) n xs parts.1 (rw (in_it, off) at any) in
              record { value = deep.value; found = rw off deep.found; passes = deep.passes }
          | inr out ↦
              let deep = at_filter test (number x + 1) n xs parts.1 (rw out at any) in
              record { value = deep.value; found = rw off deep.found; passes = deep.passes }
        ]
      ]

-- two rising lists of the same numbers are as long
same_length : {X Y : Type 0} (number : X → ℕ) (other : Y → ℕ) (low : ℕ) (xs : List X) (ys : List Y)
    → rise number low xs ≡ true
    → rise other low ys ≡ true
    → ((n : ℕ) → list_any (λ x. number x == n) xs ≡ list_any (λ y. other y == n) ys) → length xs ≡ length ys
same_length number other low [] [] rises more same = refl
same_length number other low [] (y ∷ ys) rises more same =
    let itself : (other y == other y) ≡ true = eq-eqb (other y) (other y) refl in
    let never : false ≡ true = same (other y) ∙ rw itself refl in cc
same_length number other low (x ∷ xs) [] rises more same =
    let itself : (number x == number x) ≡ true = eq-eqb (number x) (number x) refl in
    let here : list_any (λ z. number z == number x) (x ∷ xs) ≡ true = rw itself refl in
    let never : true ≡ false = sym here ∙ same (number x) in cc
same_length {X} {Y} number other low (x ∷ xs) (y ∷ ys) rises more same =
    let one = and_parts (nat_le low (number x)) (rise number (number x + 1) xs) rises in
    let two = and_parts (nat_le low (other y)) (rise other (other y + 1) ys) more in
    let rise_two : rise other (number x + 1) ys ≡ true = rw heads two.1 in
    let rest : length xs ≡ length ys =
    same_length number other (number x + 1) xs ys one.1 rise_two (λ n. tails n one.1 rise_two) in
    ap (λ n. suc n) rest
  where
    itself_x : list_any (λ z. number z == number x) (x ∷ xs) ≡ true
    itself_x = let itself : (number x == number x) ≡ true = eq-eqb (number x) (number x) refl in rw itself refl

    itself_y : list_any (λ z. other z == other y) (y ∷ ys) ≡ true
    itself_y = let itself : (other y == other y) ≡ true = eq-eqb (other y) (other y) refl in rw itself refl

    x_in : list_any (λ z. other z == number x) (y ∷ ys) ≡ true
    x_in = sym (same (number x)) ∙ itself_x

    y_in : list_any (λ z. number z == other y) (x ∷ xs) ≡ true
    y_in = same (other y) ∙ itself_y

    heads : number x ≡ other y
    heads = elim (cases_Bool (other y == number x)) [
      | inl on ↦ sym (eqb-true (other y) (number x) on)
      | inr off ↦ elim (cases_Bool (number x == other y)) [
        | inl is ↦ eqb-true (number x) (other y) is
        | inr other_off ↦ absurd (omega (
          arith,
          any_high other (other y + 1) (number x) ys (and_parts (nat_le low (other y)) (rise other (other y + 1) ys)
              more).1
              (rw off at x_in),
          any_high number (number x + 1) (other y) xs (and_parts (nat_le low (number x)) (rise number (number x + 1) xs)
              rises).1
              (rw other_off at y_in),
        ))
      ]
    ]

    tails : (n : ℕ) → rise number (number x + 1) xs ≡ true → rise other (number x + 1) ys ≡ true
        → list_any (λ z. number z == n) xs ≡ list_any (λ z. other z == n) ys
    tails n first second = elim (cases_Bool (number x == n)) [
      | inl on ↦
          let below : n < number x + 1 = omega (arith, eqb-true (number x) n on) in
          any_low number (number x + 1) n xs first below ∙ sym (any_low other (number x + 1) n ys second below)
      | inr off ↦
          let off_two : (other y == n) ≡ false = ap (λ m. m == n) (sym heads) ∙ off in
          let both : list_any (λ z. number z == n) (x ∷ xs) ≡ list_any (λ z. other z == n) (y ∷ ys) = same n in
          rw (off, off_two) at both
    ]

module _ (h : Holding) (is : IsSound h) (x : ℕ) where
  listed_there : (n : ℕ) → lists n (h.sessions x) ≡ true
      → list_any (λ s. s.age == n) (filter (λ s. s.subscription.session == x) h.subscribers) ≡ true
  listed_there n listed =
      let w : IsMapped (λ s. s.subscription.session) (subscriber_at n h.subscribers) x =
      is_mapped (λ s. s.subscription.session) (subscriber_at n h.subscribers) x (is.owners x n listed) in
      filter_at (λ s. s.age) (λ s. s.subscription.session == x) n h.subscribers w.from w.found
      (eq-eqb w.from.subscription.session x w.to)

  there_listed : (n : ℕ) → list_any (λ s. s.age == n) (filter (λ s. s.subscription.session == x) h.subscribers) ≡ true
      → lists n (h.sessions x) ≡ true
  there_listed n any =
      let v : IsOf (λ s. s.age) (λ s. s.subscription.session == x) n h.subscribers =
      at_filter (λ s. s.age) (λ s. s.subscription.session == x) 0 n h.subscribers is.ages any in
      let session : v.value.subscription.session ≡ x = eqb-true v.value.subscription.session x v.passes in
      ap (λ y. lists n (h.sessions y)) (sym session) ∙ is.owned n v.value v.found

  count_map : (subscribers : List Subscriber) → count_by (λ s. s.subscription.session == x) subscribers
      ≡ count_by (λ s. s.session == x) (subscriptions_of subscribers)
  count_map [] = refl
  count_map (s ∷ subscribers) = omega (
    arith,
    count_map subscribers,
    sum_by-cons (λ t. cond (t.session == x) 1 0) s.subscription (subscriptions_of subscribers),
    sum_by-cons (λ t. cond (t.subscription.session == x) 1 0) s subscribers,
  )

  pub asks_count : length (h.sessions x) ≡ count_by (λ s. s.session == x) (subscriptions_of h.subscribers)
  asks_count =
      same_length (λ p. p.number) (λ s. s.age) 0 (h.sessions x) (filter (λ s. s.subscription.session == x)
      h.subscribers) (is.owned_rise x)
      (rise_filter (λ s. s.age) (λ s. s.subscription.session == x) 0 h.subscribers is.ages)
      (λ n. same_tests (lists n (h.sessions x))
      (list_any (λ s. s.age == n) (filter (λ s. s.subscription.session == x) h.subscribers)) (listed_there n)
      (there_listed n))
      ∙ length-filter (λ s. s.subscription.session == x) h.subscribers ∙ count_map h.subscribers
