-- Subscriptions end by name, or all of a session: the book releases them.
use Rattle.std.proofs.Common.{◌≡◌, ◌≤◌, ◌+◌, ◌-◌, ℕ, Bool, true, false, not, List, [], ◌∷◌, map, length, Option, Some}
use Rattle.std.proofs.Common.{None, refl, sym, ap}
use Rattle.std.proofs.Common.{◌∙◌, arith, inl, inr}
use Rattle.std.specs.Prelude.{◌==◌, All, filter, find, slice_get}
use Rattle.std.specs.List.{list_any}
use Rattle.std.specs.Str.{bytes_eq}
use Rattle.std.proofs.lemmas.Bool.{cases_Bool, and_parts, eq-eqb, eqb-true}
use Rattle.std.proofs.lemmas.List.Elements.{All-head, All-tail, All-map}
use Rattle.std.proofs.lemmas.List.Folds.{map_fixed}
use Rattle.broker_book.specs.declared.parts.Accepted.{Accepted}
use Rattle.broker_book.specs.declared.parts.Subscription.{Subscription}
use Rattle.broker_book.specs.Books.{Book, Fate, QueuedMessage, Ready, Out, out_of, out_to, is_named}
use Rattle.broker_book.specs.Steps.{ended, ready_if, released}
use Rattle.broker_index.specs.Index.{Kept, Subscriber, is_place_of, without}
use Rattle.broker_index.specs.declared.places.KeyedPlace.{KeyedPlace}
use Rattle.broker_queues.specs.Parts.Fates.{passes, turn_if}
use Rattle.broker_queues.specs.Parts.Facts.{kept_at, subscriber_at, subscriptions_of, living_of, lists, holds_number}
use Rattle.broker_queues.specs.Parts.Facts.{notes}
use Rattle.broker_queues.specs.Parts.Storing.{EndsOne, EndsSome, NoneGone, Releases, is_named_at, named_by}
use Rattle.broker_queues.specs.Parts.Whole.{Holding, IsSound, book_of}
use Rattle.broker_queues.proofs.Finding.{IsMapped, any_implies, find_none, find_passes, is_mapped}
use Rattle.broker_queues.proofs.Listing.{all_found}
use Rattle.broker_queues.proofs.Living.{living_back}
use Rattle.broker_queues.proofs.Rising.{IsAmong, any_at}
use Rattle.broker_queues.proofs.Subscribing.{name_parts, named_from, same_texts}

filter_fixed : {X : Type 0} (p : X → Bool) (xs : List X) → All (λ x. p x ≡ true) xs → filter p xs ≡ xs
filter_fixed p [] all = refl
filter_fixed p (x ∷ xs) all =
    let on : p x ≡ true = All-head (λ x. p x ≡ true) x xs all in
    rw on (ap (λ l. x ∷ l) (filter_fixed p xs (All-tail (λ x. p x ≡ true) x xs all)))

-- ---- nothing is out, and none goes

module _ (h : Holding) (is : IsSound h) (test : Fate → Bool) (mine : Subscription → Bool) (ready : test Ready ≡ false)
    (theirs : (x : ℕ) (j : List ℕ) (a : ℕ) (s : Subscription) → test (Out x j a) ≡ true → is_named x j s ≡ true
    → mine s ≡ true)
    (nobody : (a : ℕ) (s : Subscriber) → subscriber_at a h.subscribers ≡ Some s → mine s.subscription ≡ false) where
  quiet : (n : ℕ) (k : Kept) → kept_at n h.kept ≡ Some k → passes test k.fate ≡ false
  quiet n k there = by_fate k.fate refl
    where
      by_fate : (f : Option Fate) → k.fate ≡ f → passes test f ≡ false
      by_fate None at = refl
      by_fate (Some Ready) at = ready
      by_fate (Some (Out x j a)) at = elim (cases_Bool (test (Out x j a))) [
        | inr off ↦ off
        | inl on ↦
            let one : IsAmong (λ s. s.age) (holds_number x j n) h.subscribers =
            any_at (λ s. s.age) (holds_number x j n) 0 h.subscribers is.ages (is.noted n k x j a there at) in
            let named = (and_parts (is_named x j one.value.subscription) (notes n one.value.entries) one.passes).0 in
            let is_mine : mine one.value.subscription ≡ true = theirs x j a one.value.subscription on named in
            let never : true ≡ false = sym is_mine ∙ nobody one.value.age one.value one.found in
            cc
      ]

  -- the book stays
  pub living_stays : map (ready_if test) (living_of h.kept) ≡ living_of h.kept
  living_stays =
      let fixed : map (turn_if (Some Ready) test) h.kept ≡ h.kept =
      map_fixed (turn_if (Some Ready) test) h.kept
      (all_found (λ (k : Kept). k.number) (λ k. turn_if (Some Ready) test k ≡ k) 0 h.kept is.numbers
      (λ k there. rw (quiet k.number k there) refl)) in
      sym (living_back test h.kept) ∙ ap living_of fixed

  pub subscriptions_stay : filter (λ s. not (mine s)) (subscriptions_of h.subscribers) ≡ subscriptions_of h.subscribers
  subscriptions_stay =
      filter_fixed (λ s. not (mine s)) (subscriptions_of h.subscribers)
      (All-map (λ s. not (mine s) ≡ true) (λ (s : Subscriber). s.subscription) h.subscribers
      (all_found (λ (s : Subscriber). s.age) (λ s. not (mine s.subscription) ≡ true) 0 h.subscribers is.ages
      (λ s there. ap not (nobody s.age s there))))

-- ---- by name

-- none has the name
module _ (h : Holding) (is : IsSound h) (x : ℕ) (j : List ℕ) (none : find (is_named_at h.subscribers x j) (h.sessions x)
    ≡ None) where
  unnamed : (a : ℕ) (s : Subscriber) → subscriber_at a h.subscribers ≡ Some s → is_named x j s.subscription ≡ false
  unnamed a s there = elim (cases_Bool (is_named x j s.subscription)) [
    | inr off ↦ off
    | inl on ↦
        let session : s.subscription.session ≡ x = (name_parts x j s.subscription on).0 in
        let owned : lists a (h.sessions x) ≡ true =
        ap (λ y. lists a (h.sessions y)) (sym session) ∙ is.owned a s there in
        let any : list_any (is_named_at h.subscribers x j) (h.sessions x) ≡ true =
        any_implies (is_place_of a) (is_named_at h.subscribers x j)
        (λ p at. ap (λ b. named_by x j (subscriber_at b h.subscribers)) (eqb-true p.number a at)
        ∙ ap (named_by x j) there ∙ on)
        (h.sessions x) owned in
        let never : true ≡ false = sym any ∙ find_none (is_named_at h.subscribers x j) (h.sessions x) none in
        cc
  ]

  other_name : (y : ℕ) (i : List ℕ) (a : ℕ) (s : Subscription) → out_to x j (Out y i a) ≡ true → is_named y i s ≡ true
      → is_named x j s ≡ true
  other_name y i a s on named =
      let parts = and_parts (y == x) (bytes_eq i j) on in
      let name = name_parts y i s named in
      named_from x j s (name.0 ∙ eqb-true y x parts.0) (name.1 ∙ same_texts i j parts.1)

  pub released_none : (accepted : List Accepted) → book_of h accepted ≡ released (book_of h accepted) x j
  released_none accepted =
      rw (
        living_stays h is (out_to x j) (is_named x j) refl other_name unnamed,
        subscriptions_stay h is (out_to x j) (is_named x j) refl other_name unnamed,
      ) refl

-- what a subscriber is that has the name
record IsNamed (h : Holding) (x : ℕ) (j : List ℕ) (age : ℕ) : Type 0 where
  subscriber : Subscriber
  sits : subscriber_at age h.subscribers ≡ Some subscriber
  session : subscriber.subscription.session ≡ x
  id : subscriber.subscription.id ≡ j

is_the_named : (h : Holding) (x : ℕ) (j : List ℕ) (p : KeyedPlace) → is_named_at h.subscribers x j p ≡ true
    → IsNamed h x j p.number
is_the_named h x j p named = by_subscriber (subscriber_at p.number h.subscribers) refl named
  where
    by_subscriber : (o : Option Subscriber) → subscriber_at p.number h.subscribers ≡ o → named_by x j o ≡ true
        → IsNamed h x j p.number
    by_subscriber None at on = let never : false ≡ true = on in cc
    by_subscriber (Some s) at on =
        let name = name_parts x j s.subscription on in
        record { subscriber = s; sits = at; session = name.0; id = name.1 }

-- one has it
pub released_found : (h i : Holding) → IsSound h → (x : ℕ) (j : List ℕ) (p : KeyedPlace)
    → find (is_named_at h.subscribers x j) (h.sessions x) ≡ Some p → EndsOne h p.number i
    → IsSound i × ((accepted : List Accepted) → book_of i accepted ≡ released (book_of h accepted) x j)
    × (NoneGone h.kept → NoneGone i.kept)
released_found h i is x j p found ends =
    let it : IsNamed h x j p.number =
    is_the_named h x j p (find_passes (is_named_at h.subscribers x j) (h.sessions x) p found) in
    let r : Releases h p.number it.subscriber i = ends it.subscriber is it.sits in (
      r.sound,
      λ accepted. r.book accepted
          ∙ ap (λ y. released (book_of h accepted) y it.subscriber.subscription.id) it.session
          ∙ ap (λ k. released (book_of h accepted) x k) it.id,
      r.none_gone,
    )

-- ---- all of a session

-- none is left
module _ (h : Holding) (is : IsSound h) (x : ℕ) (none : length (h.sessions x) ≤ 0) where
  no_places : (ps : List KeyedPlace) → length ps ≤ 0 → (a : ℕ) → lists a ps ≡ false
  no_places [] short a = refl
  no_places (p ∷ ps) short a = absurd (omega arith)

  strangers : (a : ℕ) (s : Subscriber) → subscriber_at a h.subscribers ≡ Some s → (s.subscription.session == x) ≡ false
  strangers a s there = elim (cases_Bool (s.subscription.session == x)) [
    | inr off ↦ off
    | inl on ↦
        let session : s.subscription.session ≡ x = eqb-true s.subscription.session x on in
        let owned : lists a (h.sessions x) ≡ true =
        ap (λ y. lists a (h.sessions y)) (sym session) ∙ is.owned a s there in
        let never : true ≡ false = sym owned ∙ no_places (h.sessions x) none a in
        cc
  ]

  other_session : (y : ℕ) (i : List ℕ) (a : ℕ) (s : Subscription) → out_of x (Out y i a) ≡ true → is_named y i s ≡ true
      → (s.session == x) ≡ true
  other_session y i a s on named = eq-eqb s.session x ((name_parts y i s named).0 ∙ eqb-true y x on)

  pub ended_none : (accepted : List Accepted) → book_of h accepted ≡ ended (book_of h accepted) x
  ended_none accepted =
      rw (
        living_stays h is (out_of x) (λ s. s.session == x) refl other_session strangers,
        subscriptions_stay h is (out_of x) (λ s. s.session == x) refl other_session strangers,
      ) refl

-- to end all is to end one, and then all
module _ (x : ℕ) (j : List ℕ) where
  ready_twice : (m : QueuedMessage) → ready_if (out_of x) (ready_if (out_to x j) m) ≡ ready_if (out_of x) m
  ready_twice m = by_fate m.fate
    where
      by_fate : (f : Fate)
          → ready_if (out_of x) (ready_if (out_to x j) (record m { fate = f }))
          ≡ ready_if (out_of x) (record m { fate = f })
      by_fate Ready = refl
      by_fate (Out y i a) = elim (cases_Bool (y == x)) [
        | inr off ↦ rw (off, off) refl
        | inl on ↦ elim (cases_Bool (bytes_eq i j)) [
          | inl same ↦ rw (on, same) refl
          | inr other ↦ rw (on, other, on) refl
        ]
      ]

  ready_all : (ms : List QueuedMessage)
      → map (ready_if (out_of x)) (map (ready_if (out_to x j)) ms) ≡ map (ready_if (out_of x)) ms
  ready_all [] = refl
  ready_all (m ∷ ms) = rw (ready_twice m, ready_all ms) refl

  goes_twice : (ss : List Subscription)
      → filter (λ s. not (s.session == x)) (filter (λ s. not (is_named x j s)) ss)
      ≡ filter (λ s. not (s.session == x)) ss
  goes_twice [] = refl
  goes_twice (s ∷ ss) = elim (cases_Bool (s.session == x)) [
    | inl on ↦ elim (cases_Bool (bytes_eq s.id j)) [
      | inl same ↦ rw (on, same) (goes_twice ss)
      | inr other ↦ rw (on, other, on) (goes_twice ss)
    ]
    | inr off ↦ rw (off, off) (ap (λ l. s ∷ l) (goes_twice ss))
  ]

  ended_released : (b : Book) → ended (released b x j) x ≡ ended b x
  ended_released b = rw (ready_all b.living, goes_twice b.subscriptions) refl

shorter : (n : ℕ) (ps : List KeyedPlace) → length (without n ps) ≤ length ps
shorter n [] = omega arith
shorter n (p ∷ ps) = elim (cases_Bool (p.number == n)) [
  | inl on ↦ rw on (omega (arith, shorter n ps))
  | inr off ↦ rw off (omega (arith, shorter n ps))
]

first_goes : (p : KeyedPlace) (ps : List KeyedPlace) → slice_get ps 0 ≡ Some p → length (without p.number ps) ≤ length ps - 1
first_goes p [] first = let never : None ≡ Some p = first in cc
first_goes p (r ∷ ps) first =
    let both : Some r ≡ Some p = first in
    let e : r ≡ p = cc in
    let number : (r.number == p.number) ≡ true = eq-eqb r.number p.number (ap (λ (q : KeyedPlace). q.number) e) in
    rw number (omega (arith, shorter p.number ps))

first_listed : (p : KeyedPlace) (ps : List KeyedPlace) → slice_get ps 0 ≡ Some p → lists p.number ps ≡ true
first_listed p [] first = let never : None ≡ Some p = first in cc
first_listed p (r ∷ ps) first =
    let both : Some r ≡ Some p = first in
    let e : r ≡ p = cc in
    let number : (r.number == p.number) ≡ true = eq-eqb r.number p.number (ap (λ (q : KeyedPlace). q.number) e) in
    rw number refl

-- the first goes
pub ends_first : (h i : Holding) → IsSound h → (x : ℕ) (p : KeyedPlace) → slice_get (h.sessions x) 0 ≡ Some p
    → EndsOne h p.number i
    → EndsSome h x (length (h.sessions x) - 1) i
ends_first h i is x p first ends =
    let was : IsMapped (λ (s : Subscriber). s.subscription.session) (subscriber_at p.number h.subscribers) x =
    is_mapped (λ s. s.subscription.session) (subscriber_at p.number h.subscribers) x
    (is.owners x p.number (first_listed p (h.sessions x) first)) in
    let r : Releases h p.number was.from i = ends was.from is was.found in
    let session : i.sessions x ≡ without p.number (h.sessions x) =
    ap i.sessions (sym was.to) ∙ r.session ∙ ap (λ y. without p.number (h.sessions y)) was.to in
    record {
      sound = r.sound;
      book = λ accepted. ap (λ b. ended b x) (r.book accepted
          ∙ ap (λ y. released (book_of h accepted) y was.from.subscription.id) was.to)
          ∙ ended_released x was.from.subscription.id (book_of h accepted);
      left = omega (arith, ap length session, first_goes p (h.sessions x) first);
      none_gone = r.none_gone;
    }

-- there is none
pub ends_nothing : (h : Holding) → IsSound h → (x most : ℕ) → length (h.sessions x) ≤ most → EndsSome h x most h
ends_nothing h is x most few = record { sound = is; book = λ accepted. refl; left = few; none_gone = λ none. none }

-- a list without a first element has none to take away
pub no_first : (ps : List KeyedPlace) → slice_get ps 0 ≡ None → length ps ≤ length ps - 1
no_first [] none = omega arith
no_first (p ∷ ps) none = let never : Some p ≡ None = none in cc

-- one after others
pub ends_more : (h i j : Holding) (x most fewer : ℕ) → EndsSome h x most i → EndsSome i x (length (i.sessions x) - 1) j
    → fewer + 1 ≡ most
    → EndsSome h x fewer j
ends_more h i j x most fewer p q one = record {
  sound = q.sound;
  book = λ accepted. q.book accepted ∙ p.book accepted;
  left = omega (arith, p.left, q.left);
  none_gone = λ none. q.none_gone (p.none_gone none);
}

-- all went
pub ends_all : (h i : Holding) (x most : ℕ) → EndsSome h x most i → most ≤ 0
    → IsSound i × ((accepted : List Accepted) → book_of i accepted ≡ ended (book_of h accepted) x)
    × (NoneGone h.kept → NoneGone i.kept)
ends_all h i x most p none =
    (p.sound, λ accepted. ended_none i p.sound x (omega (arith, p.left)) accepted ∙ p.book accepted, p.none_gone)
