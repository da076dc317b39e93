-- A subscriber is listed at its destination and its session.
use Rattle.std.proofs.Common.{◌≡◌, ◌<◌, ℕ, true, false, not, List, [], ◌∷◌, ◌++◌}
use Rattle.std.proofs.Common.{Option, Some, None, Result, Ok, Err, refl, sym, ap, ◌∙◌, arith, inl, inr}
use Rattle.std.specs.Prelude.{◌==◌, ◌⊎◌, All, filter}
use Rattle.std.specs.List.{list_any}
use Rattle.std.specs.Result.{IsErr}
use Rattle.std.specs.Option.{option_map, option_and_then}
use Rattle.std.specs.Str.{bytes_eq}
use Rattle.std.proofs.lemmas.Bool.{cases_Bool, cases_eq}
use Rattle.std.proofs.lemmas.List.{map-append}
use Rattle.broker_book.specs.declared.parts.Accepted.{Accepted}
use Rattle.broker_book.specs.declared.parts.Subscription.{Subscription}
use Rattle.broker_book.specs.Books.{is_named}
use Rattle.broker_book.specs.Steps.{subscribed}
use Rattle.broker_index.specs.Index.{Subscriber, Queue, Sets, is_idle, opened, unless_idle, with_subscriber, without}
use Rattle.broker_index.specs.Index.{without_subscriber}
use Rattle.broker_index.specs.declared.places.KeyedPlace.{KeyedPlace}
use Rattle.broker_queues.specs.Parts.Facts.{subscriber_at, subscriptions_of, lists, queue_of, rise}
use Rattle.broker_queues.specs.Parts.Storing.{Attached, Becomes, Closes, SubscribesTo, Tidies}
use Rattle.broker_queues.specs.Parts.Whole.{Holding, IsSound, Subscribes, book_of}
use Rattle.broker_queues.proofs.Adding.{closes, either, shut}
use Rattle.broker_queues.proofs.Finding.{IsMapped, any_map, is_mapped}
use Rattle.broker_queues.proofs.Listing.{found_all, found_listed, lists_last, lists_still, lists_was, push_filter}
use Rattle.broker_queues.proofs.Rising.{any_from_at, at_number, rise_push}
use Rattle.broker_queues.proofs.Subscribing.{came, itself, same_texts}
use Rattle.broker_queues.proofs.Sweeping.{tidy, tidy_moves}

-- ---- what was listed last goes again

-- a queue without what it has is a queue that became another
becomes_without : (age : ℕ) (b c : List ℕ → Option Queue) (name : List ℕ)
    → Sets b c name (option_map (without_subscriber age) (b name))
    → queue_of c name ≡ without_subscriber age (queue_of b name)
becomes_without age b c name sets = by_queue (b name) refl
  where
    by_queue : (x : Option Queue) → b name ≡ x → queue_of c name ≡ without_subscriber age (queue_of b name)
    by_queue None is = ap opened (sets.at ∙ ap (λ x. option_map (without_subscriber age) x) is)
        ∙ sym (ap (λ x. without_subscriber age (opened x)) is)
    by_queue (Some q) is = ap opened (sets.at ∙ ap (λ x. option_map (without_subscriber age) x) is)
        ∙ sym (ap (λ x. without_subscriber age (opened x)) is)

-- a subscriber that was added last and taken away again leaves the queues as they were
pub detaches_again : (a b c e : List ℕ → Option Queue) (name : List ℕ) (place : KeyedPlace)
    → All (λ p. p.number < place.number) (queue_of a name).subscribers → Becomes (with_subscriber place) a b name
    → Sets b c name (option_map (without_subscriber place.number) (b name))
    → Sets c e name (option_and_then unless_idle (c name))
    → Closes a e
detaches_again a b c e name place above becomes without closed d = elim (closes c e name closed d) [
  | inl same ↦ inl (same ∙ back d)
  | inr idle ↦ inr (ap is_idle (sym (back d)) ∙ idle.0, idle.1)
]
  where
    again : queue_of c name ≡ queue_of a name
    again = elim (either (with_subscriber place) a b name becomes name) [
      | inl on ↦
          becomes_without place.number b c name without ∙ ap (without_subscriber place.number) on.1
          ∙ ap (λ ps. record (queue_of a name) { subscribers = ps })
          (push_filter (λ (p : KeyedPlace). p.number) (queue_of a name).subscribers place above)
      | inr off ↦ let never : true ≡ false = sym (itself name) ∙ off.0 in cc
    ]

    back : (d : List ℕ) → queue_of c d ≡ queue_of a d
    back d = elim (either (with_subscriber place) a b name becomes d) [
      | inl on ↦ let is : name ≡ d = same_texts name d on.0 in rw (← is) again
      | inr off ↦ ap opened (without.others d (λ is.
          (let never : true ≡ false = sym (itself name) ∙ ap (λ x. bytes_eq name x) (sym is) ∙ off.0 in cc))) ∙ off.1
    ]

-- ---- a subscription comes

-- the subscriber that comes
abbrev pub newcomer : Subscription → KeyedPlace → Subscriber
newcomer sub place = record { age = place.number; subscription = sub; count = 0; entries = [] }

module _ (h : Holding) (is : IsSound h) (n : ℕ) (young : All (λ (s : Subscriber). s.age < n) h.subscribers) where
  pub lower : (a : ℕ) (s : Subscriber) → subscriber_at a h.subscribers ≡ Some s → a < n
  lower a s there =
      let below : s.age < n =
      found_all (λ (s : Subscriber). s.age) (λ (s : Subscriber). s.age < n) a h.subscribers s there young in
      omega (arith, at_number (λ (s : Subscriber). s.age) a h.subscribers s there)

  pub listeners_lower : (d : List ℕ) (a : ℕ) → lists a (queue_of h.queues d).subscribers ≡ true → a < n
  listeners_lower d a listed =
      let was : IsMapped (λ (s : Subscriber). s.subscription.destination) (subscriber_at a h.subscribers) d =
      is_mapped (λ s. s.subscription.destination) (subscriber_at a h.subscribers) d (is.listeners d a listed) in
      lower a was.from was.found

  pub owned_lower : (x a : ℕ) → lists a (h.sessions x) ≡ true → a < n
  owned_lower x a listed =
      let was : IsMapped (λ (s : Subscriber). s.subscription.session) (subscriber_at a h.subscribers) x =
      is_mapped (λ s. s.subscription.session) (subscriber_at a h.subscribers) x (is.owners x a listed) in
      lower a was.from was.found

module _ (h i : Holding) (is : IsSound h) (sub : Subscription) (place : KeyedPlace) (subs : List Subscriber)
    (pushed : subs ≡ h.subscribers ++ newcomer sub place ∷ [])
    (young : All (λ (s : Subscriber). s.age < place.number) h.subscribers)
    (free : list_any (is_named sub.session sub.id) (subscriptions_of h.subscribers) ≡ false)
    (t : Attached (record h { subscribers = subs }) sub.destination sub.session place i) where
  unnamed : (a : ℕ) (s : Subscriber) → subscriber_at a h.subscribers ≡ Some s
      → is_named sub.session sub.id s.subscription ≡ false
  unnamed a s there = elim (cases_Bool (is_named sub.session sub.id s.subscription)) [
    | inr off ↦ off
    | inl on ↦
        let any : list_any (λ (s : Subscriber). is_named sub.session sub.id s.subscription) h.subscribers ≡ true =
        any_from_at (λ (s : Subscriber). s.age) (λ (s : Subscriber). is_named sub.session sub.id s.subscription) a
        h.subscribers s
        there on in
        let all : list_any (is_named sub.session sub.id) (subscriptions_of h.subscribers) ≡ true =
        any_map (is_named sub.session sub.id) (λ (s : Subscriber). s.subscription)
        (λ (s : Subscriber). is_named sub.session sub.id s.subscription) (λ s. refl) h.subscribers ∙ any in
        let never : true ≡ false = sym all ∙ free in
        cc
  ]

  at_name : (d : List ℕ)
      → ((bytes_eq sub.destination d ≡ true) × (queue_of t.between d ≡ with_subscriber place (queue_of h.queues d)))
      ⊎ ((bytes_eq sub.destination d ≡ false) × (queue_of t.between d ≡ queue_of h.queues d))
  at_name d = either (with_subscriber place) h.queues t.between sub.destination t.becomes d

  same_places : (d : List ℕ) → ((queue_of t.between d).numbers ≡ (queue_of h.queues d).numbers)
      × ((queue_of t.between d).count ≡ (queue_of h.queues d).count)
      × ((queue_of t.between d).ready_from ≡ (queue_of h.queues d).ready_from)
      × ((queue_of t.between d).taker_from ≡ (queue_of h.queues d).taker_from)
  same_places d = elim (at_name d) [
    | inl on ↦ rw on.1 (refl, refl, refl, refl)
    | inr off ↦ rw off.1 (refl, refl, refl, refl)
  ]

  listening : (d : List ℕ) (a : ℕ) → lists a (queue_of h.queues d).subscribers ≡ true
      → lists a (queue_of i.queues d).subscribers ≡ true
  listening d a listed = ap (λ ps. lists a ps) (t.frees.lowers.subscribers d) ∙ elim (at_name d) [
    | inl on ↦ rw on.1 (lists_still a (queue_of h.queues d).subscribers place listed)
    | inr off ↦ rw off.1 listed
  ]

  listens : lists place.number (queue_of i.queues sub.destination).subscribers ≡ true
  listens =
      ap (λ ps. lists place.number ps) (t.frees.lowers.subscribers sub.destination) ∙ elim (at_name sub.destination) [
        | inl on ↦ rw on.1 (lists_last (queue_of h.queues sub.destination).subscribers place)
        | inr off ↦ let never : true ≡ false = sym (itself sub.destination) ∙ off.0 in cc
      ]

  listeners : (d : List ℕ) (a : ℕ) → lists a (queue_of i.queues d).subscribers ≡ true
      → ((a ≡ place.number) × (d ≡ sub.destination)) ⊎ (lists a (queue_of h.queues d).subscribers ≡ true)
  listeners d a listed =
      let there : lists a (queue_of t.between d).subscribers ≡ true =
      sym (ap (λ ps. lists a ps) (t.frees.lowers.subscribers d)) ∙ listed in
      elim (at_name d) [
        | inl on ↦
            let there2 : lists a ((queue_of h.queues d).subscribers ++ place ∷ []) ≡ true =
            ap (λ (q : Queue). lists a q.subscribers) (sym on.1) ∙ there in
            elim (lists_was a (queue_of h.queues d).subscribers place there2) [
              | inl old ↦ inr old
              | inr new ↦ inl (new, sym (same_texts sub.destination d on.0))
            ]
        | inr off ↦ inr (ap (λ (q : Queue). lists a q.subscribers) (sym off.1) ∙ there)
      ]

  owned : (x a : ℕ) → lists a (h.sessions x) ≡ true → lists a (i.sessions x) ≡ true
  owned x a listed = elim (cases_eq x sub.session) [
    | inl same ↦
        let there : lists a (h.sessions sub.session) ≡ true = ap (λ y. lists a (h.sessions y)) (sym same) ∙ listed in
        rw (same, t.sessions.at) (lists_still a (h.sessions sub.session) place there)
    | inr other ↦ rw (t.sessions.others x other) listed
  ]

  owners : (x a : ℕ) → lists a (i.sessions x) ≡ true
      → ((a ≡ place.number) × (x ≡ sub.session)) ⊎ (lists a (h.sessions x) ≡ true)
  owners x a listed = elim (cases_eq x sub.session) [
    | inl same ↦
        let there : lists a (h.sessions sub.session ++ place ∷ []) ≡ true =
        ap (λ ps. lists a ps) (sym (ap i.sessions same ∙ t.sessions.at)) ∙ listed in
        elim (lists_was a (h.sessions sub.session) place there) [
          | inl old ↦ inr (ap (λ y. lists a (h.sessions y)) same ∙ old)
          | inr new ↦ inl (new, same)
        ]
    | inr other ↦ inr (ap (λ ps. lists a ps) (sym (t.sessions.others x other)) ∙ listed)
  ]

  owned_rise : (x : ℕ) → rise (λ p. p.number) 0 (i.sessions x) ≡ true
  owned_rise x = elim (cases_eq x sub.session) [
    | inl same ↦ rw (same, t.sessions.at) (rise_push (λ (p : KeyedPlace). p.number) 0 (h.sessions sub.session) place
        (is.owned_rise sub.session) (omega arith)
        (λ n p found. owned_lower h is place.number young sub.session n (found_listed n (h.sessions sub.session) p
        found)))
    | inr other ↦ rw (t.sessions.others x other) (is.owned_rise x)
  ]

  subscribes : Subscribes h (newcomer sub place) i
  subscribes = record {
    subscribers = ap (λ (x : Holding). x.subscribers) t.rest ∙ pushed;
    youngest = lower h is place.number young;
    none = refl;
    fresh = unnamed;
    kept = ap (λ (x : Holding). x.kept) t.rest;
    last = ap (λ (x : Holding). x.last) t.rest;
    given = ap (λ (x : Holding). x.given) t.rest;
    numbers = λ d. t.frees.lowers.numbers d ∙ (same_places d).0;
    count = λ d. t.frees.counts d ∙ (same_places d).1;
    ready = λ d. omega (arith, t.frees.lowers.ready d, (same_places d).2);
    takers = λ d. omega (arith, t.frees.lowers.takers d, (same_places d).3);
    taker_from = t.frees.from;
    listening = listening;
    listens = listens;
    listeners = listeners;
    owned = owned;
    owns = ap (λ ps. lists place.number ps) t.sessions.at ∙ lists_last (h.sessions sub.session) place;
    owners = owners;
    owned_rise = owned_rise;
    wakes = t.frees.wakes;
    awake = t.frees.awake;
  }

  pub joined : IsSound i × ((accepted : List Accepted) → book_of i accepted ≡ subscribed (book_of h accepted) sub)
  joined = (
    came h (newcomer sub place) i is subscribes,
    λ accepted.
        let subscriptions : subscriptions_of i.subscribers ≡ subscriptions_of h.subscribers ++ sub ∷ [] =
        ap subscriptions_of subscribes.subscribers
        ∙ map-append (λ (s : Subscriber). s.subscription) h.subscribers (newcomer sub place ∷ []) in
        rw (subscribes.kept, subscriptions, subscribes.last, subscribes.given) refl,
  )

-- ---- or not

-- a SUBSCRIBE that fails and leaves the book tidy is refused
pub not_joined : {A E : Type 0} (h i : Holding) (sub : Subscription) (r : Result A E) → IsErr r → Tidies h i
    → SubscribesTo h sub i r
not_joined h i sub (Ok x) err t = let never : false ≡ true = err in cc
not_joined h i sub (Err e) err t = t

-- equal subscribers keep the book tidy
pub tidy_same : (h : Holding) → IsSound h → (subs : List Subscriber) → subs ≡ h.subscribers
    → Tidies h (record h { subscribers = subs })
tidy_same h is subs same = rw same (tidy h is)

-- the subscriber goes again
module _ (h i : Holding) (is : IsSound h) (sub : Subscription) (place : KeyedPlace) (subs back : List Subscriber)
    (pushed : subs ≡ h.subscribers ++ newcomer sub place ∷ [])
    (young : All (λ (s : Subscriber). s.age < place.number) h.subscribers)
    (closed : Closes h.queues i.queues) (rest : i ≡ record h { subscribers = subs; queues = i.queues }) where
  pub goes_again : back ≡ filter (λ s. not (s.age == place.number)) i.subscribers
      → Tidies h (record i { subscribers = back })
  goes_again is_so =
      let same : back ≡ h.subscribers =
      is_so ∙ ap (λ l. filter (λ (s : Subscriber). not (s.age == place.number)) l)
      (ap (λ (x : Holding). x.subscribers) rest ∙ pushed)
      ∙ push_filter (λ (s : Subscriber). s.age) h.subscribers (newcomer sub place) young in
      tidy_moves h (record i { subscribers = back }) is
      (shut h is (record i { subscribers = back }) closed (ap (λ (x : Holding). x.kept) rest) same
      (ap (λ (x : Holding). x.sessions) rest) (ap (λ (x : Holding). x.awake) rest) (ap (λ (x : Holding). x.last) rest)
      (ap (λ (x : Holding). x.given) rest))
