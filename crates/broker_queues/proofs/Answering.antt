-- A subscriber's deliveries are gone through one by one: what an answer counts for was among them.
use Rattle.std.proofs.Common.{◌≡◌, ◌≤◌, ℕ, Bool, true, false, not, cond, ◌&&◌, ◌||◌, List, []}
use Rattle.std.proofs.Common.{◌∷◌, ◌++◌, map, Option, Some, None, refl, sym, ap, ◌∙◌, inl, inr}
use Rattle.std.specs.Prelude.{◌==◌, find, filter}
use Rattle.std.specs.List.{list_any}
use Rattle.std.specs.Option.{option_map}
use Rattle.std.specs.Str.{bytes_eq}
use Rattle.std.proofs.lemmas.Bool.{cases_Bool, cases_eq, eqb-true, ne_eqb, eq-eqb, and_parts}
use Rattle.std.proofs.lemmas.List.Folds.{list_any-append}
use Rattle.broker_book.specs.declared.parts.Subscription.{Subscription}
use Rattle.broker_book.specs.Books.{Fate, Ready, Out, out_to, out_as, is_named, reaches}
use Rattle.broker_book.specs.Steps.{covered, ready_if}
use Rattle.broker_index.specs.Index.{Kept, Subscriber, with_fate, has_number}
use Rattle.broker_index.specs.declared.places.Entry.{Entry}
use Rattle.broker_index.specs.declared.places.KeyedPlace.{KeyedPlace}
use Rattle.broker_queues.specs.Parts.Facts.{rise, kept_at, subscriber_at, lists, living_of, holds_number, notes}
use Rattle.broker_queues.specs.Parts.Fates.{passes, fated, turn_if, turn_among, fate_of_kept, is_held, is_held_of}
use Rattle.broker_queues.specs.Parts.Fates.{is_held_at}
use Rattle.broker_queues.specs.Parts.Whole.{Holding, IsSound}
use Rattle.broker_queues.proofs.Finding.{find_map, map_map, any_implies, SomePasses}
use Rattle.broker_queues.proofs.Finding.{any_some, same_tests, find_passes, find_none, none_found}
use Rattle.broker_queues.proofs.Living.{living_gone, living_back}
use Rattle.broker_queues.proofs.Rising.{map_same, IsAmong, any_at, any_from_at, first_least, least_first}
use Rattle.broker_queues.proofs.Subscribing.{is_out, IsOut}

-- ---- one delivery after another

module _ (to : Option Fate) (test : Fate → Bool) (fails : passes test to ≡ false) where
  -- a message among deliveries, by what its tests say
  turned : (es : List Entry) (x : Kept) (b : Bool) → (passes test x.fate && notes x.number es) ≡ b
      → turn_among to test es x ≡ cond b (fated to x) x
  turned es x b e = rw e refl

  turned_number : (es : List Entry) (x : Kept) → (turn_among to test es x).number ≡ x.number
  turned_number es x = elim (cases_Bool (passes test x.fate && notes x.number es)) [
    | inl on ↦ rw on refl
    | inr off ↦ rw off refl
  ]

  noted_more : (es : List Entry) (e : Entry) (n : ℕ)
      → notes n (es ++ e ∷ []) ≡ (notes n es || ((e.number == n) || false))
  noted_more es e n = list_any-append (λ e. e.number == n) es (e ∷ [])

  -- another message isn't touched by one delivery more
  untouched : (es : List Entry) (e : Entry) (x : Kept) → (e.number ≡ x.number → ⊥)
      → turn_among to test es x ≡ turn_among to test (es ++ e ∷ []) x
  untouched es e x other =
      let no : (e.number == x.number) ≡ false = ne_eqb e.number x.number other in
      let more : notes x.number (es ++ e ∷ []) ≡ notes x.number es =
      noted_more es e x.number ∙ rw no (plain (notes x.number es)) in
      rw more refl
    where
      plain : (b : Bool) → (b || (false || false)) ≡ b
      plain true = refl
      plain false = refl

  -- the message of a number, after these deliveries
  looked : (es : List Entry) (kept : List Kept) (x : Kept) (n : ℕ) → kept_at n kept ≡ Some x
      → kept_at n (map (turn_among to test es) kept) ≡ Some (turn_among to test es x)
  looked es kept x n found =
      find_map (has_number n) (turn_among to test es) (λ y. rw (turned_number es y) refl) kept
      ∙ ap (option_map (turn_among to test es)) found

  -- the one of this delivery passes the test, and turns
  pub hit : (es : List Entry) (e : Entry) (before : List Kept) (k : Kept) → rise (λ k. k.number) 0 before ≡ true
      → kept_at e.number (map (turn_among to test es) before) ≡ Some k → passes test k.fate ≡ true
      → map (with_fate e.number to) (map (turn_among to test es) before)
      ≡ map (turn_among to test (es ++ e ∷ [])) before
  hit es e before k rises found on =
      map_map (with_fate e.number to) (turn_among to test es) before
      ∙ map_same (λ k. k.number) (λ x. with_fate e.number to (turn_among to test es x)) (turn_among to test
      (es ++ e ∷ [])) 0 before rises each
    where
      at_it : (x : Kept) → x.number ≡ e.number → kept_at x.number before ≡ Some x
          → passes test (turn_among to test es x).fate ≡ true
      at_it x is there =
          let here : kept_at e.number before ≡ Some x = ap (λ n. kept_at n before) (sym is) ∙ there in
          let same : Some (turn_among to test es x) ≡ Some k = sym (looked es before x e.number here) ∙ found in
          let k_is : turn_among to test es x ≡ k = cc in
          rw k_is on

      same_one : (x : Kept) → x.number ≡ e.number → passes test (turn_among to test es x).fate ≡ true
          → with_fate e.number to (turn_among to test es x) ≡ turn_among to test (es ++ e ∷ []) x
      same_one x is now = elim (cases_Bool (passes test x.fate)) [
        | inl passed ↦ elim (cases_Bool (notes x.number es)) [
          | inl noted ↦
              let t : turn_among to test es x ≡ fated to x = turned es x true (rw (passed, noted) refl) in
              let no : passes test to ≡ true = rw t at now in
              let never : false ≡ true = sym fails ∙ no in cc
          | inr fresh ↦
              let t : turn_among to test es x ≡ x = turned es x false (rw (passed, fresh) refl) in
              let number : (x.number == e.number) ≡ true = eq-eqb x.number e.number is in
              let number2 : (e.number == x.number) ≡ true = eq-eqb e.number x.number (sym is) in
              let more : turn_among to test (es ++ e ∷ []) x ≡ fated to x =
              turned (es ++ e ∷ []) x true (rw (noted_more es e x.number, passed, fresh, number2) refl) in
              let one : with_fate e.number to x ≡ fated to x = rw number refl in
              ap (with_fate e.number to) t ∙ one ∙ sym more
        ]
        | inr failed ↦
            let t : turn_among to test es x ≡ x = turned es x false (rw failed refl) in
            let now2 : passes test x.fate ≡ true = rw t at now in
            let never : false ≡ true = sym failed ∙ now2 in cc
      ]

      each : (x : Kept) → kept_at x.number before ≡ Some x
          → with_fate e.number to (turn_among to test es x) ≡ turn_among to test (es ++ e ∷ []) x
      each x there = elim (cases_eq x.number e.number) [
        | inl is ↦ same_one x is (at_it x is there)
        | inr other ↦
            let number : (x.number == e.number) ≡ false = ne_eqb x.number e.number other in
            let number2 : ((turn_among to test es x).number == e.number) ≡ false =
            rw (turned_number es x, number) refl in
            let stays : with_fate e.number to (turn_among to test es x) ≡ turn_among to test es x = rw number2 refl in
            stays ∙ untouched es e x (λ is. other (sym is))
      ]

  -- the one of this delivery fails the test, or there is none
  pub miss : (es : List Entry) (e : Entry) (before : List Kept) → rise (λ k. k.number) 0 before ≡ true
      → ((k : Kept) → kept_at e.number (map (turn_among to test es) before) ≡ Some k → passes test k.fate ≡ false)
      → map (turn_among to test es) before ≡ map (turn_among to test (es ++ e ∷ [])) before
  miss es e before rises off =
      map_same (λ k. k.number) (turn_among to test es) (turn_among to test (es ++ e ∷ [])) 0 before rises each
    where
      same_one : (x : Kept) → x.number ≡ e.number → passes test (turn_among to test es x).fate ≡ false
          → turn_among to test es x ≡ turn_among to test (es ++ e ∷ []) x
      same_one x is now = elim (cases_Bool (passes test x.fate)) [
        | inl passed ↦ elim (cases_Bool (notes x.number es)) [
          | inl noted ↦
              turned es x true (rw (passed, noted) refl)
              ∙ sym (turned (es ++ e ∷ []) x true (rw (noted_more es e x.number, passed, noted) refl))
          | inr fresh ↦
              let t : turn_among to test es x ≡ x = turned es x false (rw (passed, fresh) refl) in
              let now2 : passes test x.fate ≡ false = rw t at now in
              let never : true ≡ false = sym passed ∙ now2 in cc
        ]
        | inr failed ↦
            turned es x false (rw failed refl) ∙ sym (turned (es ++ e ∷ []) x false (rw failed refl))
      ]

      each : (x : Kept) → kept_at x.number before ≡ Some x
          → turn_among to test es x ≡ turn_among to test (es ++ e ∷ []) x
      each x there = elim (cases_eq x.number e.number) [
        | inl is ↦
            let here : kept_at e.number before ≡ Some x = ap (λ n. kept_at n before) (sym is) ∙ there in
            same_one x is (off (turn_among to test es x) (looked es before x e.number here))
        | inr other ↦ untouched es e x (λ is. other (sym is))
      ]

  -- at the start none has turned
  pub first : (before : List Kept) → map (turn_among to test []) before ≡ before
  first [] = refl
  first (x ∷ before) = elim (cases_Bool (passes test x.fate)) [
    | inl on ↦ rw on (ap (λ l. x ∷ l) (first before))
    | inr off ↦ rw off (ap (λ l. x ∷ l) (first before))
  ]

  -- at the end all that pass the test have, if each was among the deliveries
  pub whole : (es : List Entry) (before : List Kept) → rise (λ k. k.number) 0 before ≡ true
      → ((k : Kept) → kept_at k.number before ≡ Some k → passes test k.fate ≡ true → notes k.number es ≡ true)
      → map (turn_among to test es) before ≡ map (turn_if to test) before
  whole es before rises all =
      map_same (λ k. k.number) (turn_among to test es) (turn_if to test) 0 before rises (λ x there.
      elim (cases_Bool (passes test x.fate)) [
        | inl on ↦ turned es x true (rw (on, all x there on) refl) ∙ rw on refl
        | inr off ↦ turned es x false (rw off refl) ∙ rw off refl
      ])

-- ---- what a subscriber notes

-- each message that is out to a subscriber is among its deliveries
pub noted_by : (h : Holding) → IsSound h → (a : ℕ) (s : Subscriber) → subscriber_at a h.subscribers ≡ Some s
    → (n : ℕ) (k : Kept)
    → kept_at n h.kept ≡ Some k → passes (out_to s.subscription.session s.subscription.id) k.fate ≡ true
    → notes n s.entries ≡ true
noted_by h is a s sits n k there on =
    let x : ℕ = s.subscription.session in
    let j : List ℕ = s.subscription.id in
    let out : IsOut x j k.fate = is_out x j k.fate on in
    let one : IsAmong (λ s. s.age) (holds_number x j n) h.subscribers =
    any_at (λ s. s.age) (holds_number x j n) 0 h.subscribers is.ages (is.noted n k x j out.ack there out.out) in
    let parts = and_parts (is_named x j one.value.subscription) (notes n one.value.entries) one.passes in
    let same : a ≡ one.value.age = is.apart a one.value.age s one.value sits one.found parts.0 in
    let here : subscriber_at one.value.age h.subscribers ≡ Some s = rw same at sits in
    let both : Some s ≡ Some one.value = sym here ∙ one.found in
    let e : s ≡ one.value = cc in
    rw e parts.1

-- what an answer counts for is out to the subscription
pub covered_out : (s : Subscription) (answered : ℕ) (f : Option Fate) → passes (covered s answered) f ≡ true
    → passes (out_to s.session s.id) f ≡ true
covered_out s answered None on = on
covered_out s answered (Some Ready) on = on
covered_out s answered (Some (Out x i n)) on =
    (and_parts (x == s.session && bytes_eq i s.id) (reaches s.mode answered n) on).0

-- what is out as a delivery is out
pub as_out : (x : ℕ) (j : List ℕ) (number : ℕ) (f : Option Fate) → passes (out_as x j number) f ≡ true
    → passes (out_to x j) f ≡ true
as_out x j number None on = on
as_out x j number (Some Ready) on = on
as_out x j number (Some (Out y i n)) on = (and_parts (y == x && bytes_eq i j) (n == number) on).0

-- ---- who holds a delivery

pub any_living : (test : Fate → Bool) (kept : List Kept)
    → list_any (λ m. test m.fate) (living_of kept) ≡ list_any (λ k. passes test k.fate) kept
any_living test [] = refl
any_living test (k ∷ kept) = by_fate k.fate (any_living test kept)
  where
    by_fate : (f : Option Fate) → list_any (λ m. test m.fate) (living_of kept) ≡ list_any (λ k. passes test k.fate) kept
        → list_any (λ m. test m.fate) (living_of (fated f k ∷ kept))
        ≡ list_any (λ k. passes test k.fate) (fated f k ∷ kept)
    by_fate None rest = rest
    by_fate (Some f) rest = ap (λ b. test f || b) rest

-- a delivery that is out to a subscriber is among those it notes
pub held_is : (h : Holding) → IsSound h → (a : ℕ) (s : Subscriber) → subscriber_at a h.subscribers ≡ Some s
    → (number : ℕ)
    → is_held h.kept number s ≡ list_any (λ m. out_as s.subscription.session s.subscription.id number m.fate)
    (living_of h.kept)
held_is h is a s sits number =
    let test : Fate → Bool = out_as s.subscription.session s.subscription.id number in
    same_tests (is_held h.kept number s) (list_any (λ m. test m.fate) (living_of h.kept)) (there test) (back test)
  where
    here : (test : Fate → Bool) (n : ℕ) (o : Option Kept) → kept_at n h.kept ≡ o → passes test (fate_of_kept o) ≡ true
        → list_any (λ k. passes test k.fate) h.kept ≡ true
    here test n None found on = let never : false ≡ true = on in cc
    here test n (Some k) found on = any_from_at (λ k. k.number) (λ k. passes test k.fate) n h.kept k found on

    there : (test : Fate → Bool) → list_any (λ e. passes test (fate_of_kept (kept_at e.number h.kept))) s.entries ≡ true
        → list_any (λ m. test m.fate) (living_of h.kept) ≡ true
    there test any =
        let one : SomePasses (λ e. passes test (fate_of_kept (kept_at e.number h.kept))) =
        any_some (λ e. passes test (fate_of_kept (kept_at e.number h.kept))) s.entries any in
        any_living test h.kept ∙ here test one.value.number (kept_at one.value.number h.kept) refl one.passes

    back : (test : Fate → Bool) → list_any (λ m. out_as s.subscription.session s.subscription.id number m.fate)
        (living_of h.kept) ≡ true
        → is_held h.kept number s ≡ true
    back test any =
        let out : Fate → Bool = out_as s.subscription.session s.subscription.id number in
        let one : IsAmong (λ k. k.number) (λ k. passes out k.fate) h.kept =
        any_at (λ k. k.number) (λ k. passes out k.fate) 0 h.kept is.numbers (sym (any_living out h.kept) ∙ any) in
        let noted : notes one.value.number s.entries ≡ true =
        noted_by h is a s sits one.value.number one.value one.found
        (as_out s.subscription.session s.subscription.id number one.value.fate one.passes) in
        any_implies {A = Entry} (λ e. e.number == one.value.number) (λ e. passes out
        (fate_of_kept (kept_at e.number h.kept)))
        (λ e same. rw (eqb-true e.number one.value.number same, one.found) one.passes) s.entries noted

-- whether a subscriber is the session's, and a delivery of this number is out to it
abbrev pub holds_out_in : Holding → ℕ → ℕ → Subscriber → Bool
holds_out_in h x number s =
    s.subscription.session == x && list_any (λ m. out_as s.subscription.session s.subscription.id number m.fate)
    (living_of h.kept)

-- the oldest of a session's subscribers that holds a delivery
pub record IsHolder (h : Holding) (x number age : ℕ) : Type 0 where
  pub subscriber : Subscriber
  pub sits : subscriber_at age h.subscribers ≡ Some subscriber
  pub own : subscriber.subscription.session ≡ x
  pub first : find (holds_out_in h x number) h.subscribers ≡ Some subscriber

-- a subscriber at a place of a session is the session's
pub own : (h : Holding) → IsSound h → (x a : ℕ) (s : Subscriber) → lists a (h.sessions x) ≡ true
    → subscriber_at a h.subscribers ≡ Some s
    → s.subscription.session ≡ x
own h is x a s listed sits =
    let e : Some s.subscription.session ≡ Some x = sym (ap (λ o. option_map (λ s. s.subscription.session) o) sits)
    ∙ is.owners x a listed in
    cc

module _ (h : Holding) (is : IsSound h) (x number : ℕ) where
  -- a subscriber that holds it is at a place of its session
  at_place : (a : ℕ) (s : Subscriber) → subscriber_at a h.subscribers ≡ Some s → holds_out_in h x number s ≡ true
      → IsAmong (λ p. p.number) (λ p. p.number == a) (h.sessions x)
  at_place a s sits holds =
      let out : Bool =
      list_any (λ m. out_as s.subscription.session s.subscription.id number m.fate) (living_of h.kept) in
      let mine : s.subscription.session ≡ x =
      eqb-true s.subscription.session x (and_parts (s.subscription.session == x) out holds).0 in
      any_at (λ p. p.number) (λ p. p.number == a) 0 (h.sessions x) (is.owned_rise x) (rw mine at (is.owned a s sits))

  held_there : (p : KeyedPlace) (s : Subscriber) → subscriber_at p.number h.subscribers ≡ Some s
      → holds_out_in h x number s ≡ true
      → is_held_at h.kept h.subscribers number p ≡ true
  held_there p s sits holds =
      let out : Bool =
      list_any (λ m. out_as s.subscription.session s.subscription.id number m.fate) (living_of h.kept) in
      ap (is_held_of h.kept number) sits ∙ held_is h is p.number s sits number
      ∙ (and_parts (s.subscription.session == x) out holds).1

  -- none at its places holds it: none holds it
  pub no_holder : find (is_held_at h.kept h.subscribers number) (h.sessions x) ≡ None
      → find (holds_out_in h x number) h.subscribers ≡ None
  no_holder none =
      none_found (holds_out_in h x number) h.subscribers (quiet (list_any (holds_out_in h x number) h.subscribers) refl)
    where
      quiet : (b : Bool) → list_any (holds_out_in h x number) h.subscribers ≡ b
          → list_any (holds_out_in h x number) h.subscribers ≡ false
      quiet false e = e
      quiet true e =
          let one : IsAmong (λ s. s.age) (holds_out_in h x number) h.subscribers =
          any_at (λ s. s.age) (holds_out_in h x number) 0 h.subscribers is.ages e in
          let place : IsAmong (λ p. p.number) (λ p. p.number == one.value.age) (h.sessions x) =
          at_place one.value.age one.value one.found one.passes in
          let same : one.value.age ≡ place.value.number =
          sym (eqb-true place.value.number one.value.age place.passes) in
          let sits : subscriber_at place.value.number h.subscribers ≡ Some one.value =
          ap (λ a. subscriber_at a h.subscribers) (sym same) ∙ one.found in
          let yes : list_any (is_held_at h.kept h.subscribers number) (h.sessions x) ≡ true =
          any_from_at (λ p. p.number) (is_held_at h.kept h.subscribers number) place.value.number (h.sessions x)
          place.value place.found
          (held_there place.value one.value sits one.passes) in
          let never : true ≡ false = sym yes ∙ find_none (is_held_at h.kept h.subscribers number) (h.sessions x) none in
          cc

  -- the first that holds it at its places is the first that holds it
  pub the_holder : (p : KeyedPlace) → find (is_held_at h.kept h.subscribers number) (h.sessions x) ≡ Some p
      → lists p.number (h.sessions x) ≡ true
      → IsHolder h x number p.number
  the_holder p foremost listed = by_subscriber (subscriber_at p.number h.subscribers) refl (find_passes
      (is_held_at h.kept h.subscribers number) (h.sessions x) p foremost)
    where
      earlier : (b : ℕ) (t : Subscriber) → subscriber_at b h.subscribers ≡ Some t → holds_out_in h x number t ≡ true
          → p.number ≤ b
      earlier b t there passes =
          let place : IsAmong (λ p. p.number) (λ p. p.number == b) (h.sessions x) = at_place b t there passes in
          let same : b ≡ place.value.number = sym (eqb-true place.value.number b place.passes) in
          let sits : subscriber_at place.value.number h.subscribers ≡ Some t =
          ap (λ a. subscriber_at a h.subscribers) (sym same)
          ∙ there in
          rw same (first_least (λ p. p.number) (is_held_at h.kept h.subscribers number) 0 (h.sessions x) p place.value
          place.value.number
          (is.owned_rise x) foremost place.found (held_there place.value t sits passes))

      by_subscriber : (o : Option Subscriber) → subscriber_at p.number h.subscribers ≡ o
          → is_held_at h.kept h.subscribers number p ≡ true → IsHolder h x number p.number
      by_subscriber None sits held = let never : false ≡ true = sym (ap (is_held_of h.kept number) sits) ∙ held in cc
      by_subscriber (Some s) sits held =
          let mine : s.subscription.session ≡ x = own h is x p.number s listed sits in
          let out : list_any (λ m. out_as s.subscription.session s.subscription.id number m.fate) (living_of h.kept)
          ≡ true =
          sym (held_is h is p.number s sits number) ∙ (sym (ap (is_held_of h.kept number) sits) ∙ held) in
          let holds : holds_out_in h x number s ≡ true = rw (eq-eqb s.subscription.session x mine, out) refl in
          record {
            subscriber = s;
            sits = sits;
            own = mine;
            first = least_first (λ s. s.age) (holds_out_in h x number) 0 h.subscribers s p.number is.ages sits holds
                (λ b t there passes. earlier b t there passes);
          }

-- ---- what the book becomes

module _ (h : Holding) (is : IsSound h) (a : ℕ) (s : Subscriber) (sits : subscriber_at a h.subscribers ≡ Some s) where
  -- an answer's messages are gone
  pub acked_living : (number : ℕ) → living_of (map (turn_among None (covered s.subscription number) s.entries) h.kept)
      ≡ filter (λ m. not (covered s.subscription number m.fate)) (living_of h.kept)
  acked_living number =
      ap living_of (whole None (covered s.subscription number) refl s.entries h.kept is.numbers (λ k there on.
      noted_by h is a s sits k.number k there (covered_out s.subscription number k.fate on)))
      ∙ living_gone (covered s.subscription number) h.kept

  -- they are ready again
  pub nacked_living : (number : ℕ) → living_of (map (turn_among (Some Ready) (covered s.subscription number) s.entries)
      h.kept)
      ≡ map (ready_if (covered s.subscription number)) (living_of h.kept)
  nacked_living number =
      ap living_of (whole (Some Ready) (covered s.subscription number) refl s.entries h.kept is.numbers (λ k there on.
      noted_by h is a s sits k.number k there (covered_out s.subscription number k.fate on)))
      ∙ living_back (covered s.subscription number) h.kept

  -- all that was out to a subscriber is ready again
  pub released_living : living_of (map (turn_among (Some Ready) (out_to s.subscription.session s.subscription.id)
      s.entries) h.kept)
      ≡ map (ready_if (out_to s.subscription.session s.subscription.id)) (living_of h.kept)
  released_living =
      ap living_of (whole (Some Ready) (out_to s.subscription.session s.subscription.id) refl s.entries h.kept
      is.numbers (λ k there on.
      noted_by h is a s sits k.number k there on))
      ∙ living_back (out_to s.subscription.session s.subscription.id) h.kept
