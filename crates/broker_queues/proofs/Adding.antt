-- A message comes to a destination, or a queue that is idle goes.
use Rattle.std.proofs.Common.{◌≡◌, ◌≤◌, ℕ, ◌+◌, true, false, List, [], ◌∷◌, ◌++◌, length}
use Rattle.std.proofs.Common.{Option, Some, None, refl, sym, ap, ◌∙◌, arith, inl, inr}
use Rattle.std.specs.Prelude.{◌==◌, ◌⊎◌, is_some}
use Rattle.std.specs.Option.{option_map, option_and_then}
use Rattle.std.specs.Str.{bytes_eq}
use Rattle.std.proofs.lemmas.Bool.{cases_Bool, eqb-true, and_parts, leb-true}
use Rattle.broker_book.specs.declared.parts.Sent.{Sent}
use Rattle.broker_book.specs.Books.{Fate, is_for}
use Rattle.broker_index.specs.Index.{Kept, Queue, Sets, opened, empty_queue, is_idle, unless_idle, with_counted}
use Rattle.broker_index.specs.Index.{with_subscriber}
use Rattle.broker_index.specs.declared.places.KeyedPlace.{KeyedPlace}
use Rattle.broker_queues.specs.Parts.Queues.{HasTold, LooksFrom, told_count, told_from}
use Rattle.broker_queues.specs.Parts.Facts.{kept_at, lists, queue_of, living_as, message_of}
use Rattle.broker_queues.specs.Parts.Fates.{weight}
use Rattle.broker_queues.specs.Parts.Storing.{Becomes, Closes, ListsOnly, adding}
use Rattle.broker_queues.specs.Parts.Whole.{Holding, IsSound, LooksElsewhere, Puts, Wakes, new_kept}
use Rattle.broker_queues.proofs.Listing.{lists_still, lists_last, lists_was}
use Rattle.broker_queues.proofs.Living.{count_zero}
use Rattle.broker_queues.proofs.Subscribing.{same_texts, itself}

-- ---- one queue becomes another

differs : (d name : List ℕ) → bytes_eq name d ≡ false → d ≡ name → ⊥
differs d name off is =
    let on : bytes_eq name d ≡ true = rw is (itself name) in
    let never : true ≡ false = sym on ∙ off in
    cc

-- one queue has changed so, and no other has changed
pub becomes : (change : Queue → Queue) (old new : List ℕ → Option Queue) (name : List ℕ)
    → queue_of new name ≡ change (queue_of old name)
    → ((d : List ℕ) → (d ≡ name → ⊥) → queue_of new d ≡ queue_of old d) → Becomes change old new name
becomes change old new name at others d = elim (cases_Bool (bytes_eq name d)) [
  | inl on ↦ let is : name ≡ d = same_texts name d on in rw (on, ← is) at
  | inr off ↦ rw off (others d (differs d name off))
]

-- it is the one of the name, or stays
pub either : (change : Queue → Queue) (old new : List ℕ → Option Queue) (name : List ℕ) → Becomes change old new name
    → (d : List ℕ)
    → ((bytes_eq name d ≡ true) × (queue_of new d ≡ change (queue_of old d)))
    ⊎ ((bytes_eq name d ≡ false) × (queue_of new d ≡ queue_of old d))
either change old new name b d = elim (cases_Bool (bytes_eq name d)) [
  | inl on ↦ inl (on, b d ∙ rw on refl)
  | inr off ↦ inr (off, b d ∙ rw off refl)
]

-- a queue is opened, and nothing is known of it but that it is there
pub opens : (a b : List ℕ → Option Queue) (name : List ℕ) → Sets a b name (Some (opened (a name))) → (d : List ℕ)
    → queue_of b d ≡ queue_of a d
opens a b name sets d = elim (cases_Bool (bytes_eq name d)) [
  | inl on ↦ let is : name ≡ d = same_texts name d on in rw (← is) (ap opened sets.at)
  | inr off ↦ ap opened (sets.others d (differs d name off))
]

-- it was open, where its queue told something
pub told_open : (queues : List ℕ → Option Queue) (name : List ℕ) (told : Option (ℕ × ℕ)) → HasTold queues name told
    → is_some told ≡ true → Sets queues queues name (Some (opened (queues name)))
told_open queues name told has some = record {
  at = by_queue (queues name) (ap is_some (sym has) ∙ some);
  others = λ other differs. refl;
}
  where
    by_queue : (o : Option Queue) → is_some {T = ℕ × ℕ} (option_map (λ q. (q.count, q.ready_from)) o) ≡ true
        → o ≡ Some (opened o)
    by_queue None never = let no : false ≡ true = never in cc
    by_queue (Some q) there = refl

-- what was told is its count
pub told_counts : (queues : List ℕ → Option Queue) (name : List ℕ) (told : Option (ℕ × ℕ)) → HasTold queues name told
    → told_count told ≡ (queue_of queues name).count
told_counts queues name told has = ap told_count has ∙ by_queue (queues name)
  where
    by_queue : (o : Option Queue) → told_count (option_map (λ q. (q.count, q.ready_from)) o) ≡ (opened o).count
    by_queue None = refl
    by_queue (Some q) = refl

-- and from where it looks, which a message more doesn't change
pub told_low : (a c : List ℕ → Option Queue) (name : List ℕ) (place : KeyedPlace) (number : ℕ) (told : Option (ℕ × ℕ))
    → HasTold a name told → Becomes (adding place) a c name → told_from told number ≡ true
    → (queue_of c name).ready_from ≤ number
told_low a c name place number told has b on =
    omega (arith, same, by_queue (a name) (ap (λ t. told_from t number) (sym has) ∙ on))
  where
    same : (queue_of c name).ready_from ≡ (queue_of a name).ready_from
    same = elim (either (adding place) a c name b name) [
      | inl it ↦ ap (λ (q : Queue). q.ready_from) it.1
      | inr it ↦ ap (λ (q : Queue). q.ready_from) it.1
    ]

    by_queue : (o : Option Queue) → told_from (option_map (λ q. (q.count, q.ready_from)) o) number ≡ true
        → (opened o).ready_from ≤ number
    by_queue None low = omega arith
    by_queue (Some q) low = leb-true q.ready_from number low

-- a message is listed at its end, and counted
pub number_added : (a b c : List ℕ → Option Queue) (name : List ℕ) (place : KeyedPlace)
    → Sets a b name (Some (opened (a name))) → Sets b c name (option_map (with_counted place) (b name))
    → Becomes (adding place) a c name
number_added a b c name place p q =
    becomes (adding place) a c name (ap opened (q.at ∙ ap (λ o. option_map (with_counted place) o) p.at))
    (λ d other. ap opened (q.others d other ∙ p.others d other))

-- a subscriber is listed at its end
pub subscriber_added : (a b c : List ℕ → Option Queue) (name : List ℕ) (place : KeyedPlace)
    → Sets a b name (Some (opened (a name))) → Sets b c name (option_map (with_subscriber place) (b name))
    → Becomes (with_subscriber place) a c name
subscriber_added a b c name place p q =
    becomes (with_subscriber place) a c name (ap opened (q.at ∙ ap (λ o. option_map (with_subscriber place) o) p.at))
    (λ d other. ap opened (q.others d other ∙ p.others d other))

-- ---- idle queues go

-- a queue is closed
pub closes : (old new : List ℕ → Option Queue) (name : List ℕ)
    → Sets old new name (option_and_then unless_idle (old name))
    → Closes old new
closes old new name sets d = elim (cases_Bool (bytes_eq name d)) [
  | inl on ↦ let is : name ≡ d = same_texts name d on in rw (← is) (by_queue (old name) refl)
  | inr off ↦ inl (ap opened (sets.others d (differs d name off)))
]
  where
    by_queue : (o : Option Queue) → old name ≡ o
        → (queue_of new name ≡ queue_of old name)
        ⊎ ((is_idle (queue_of old name) ≡ true) × (queue_of new name ≡ empty_queue))
    by_queue None is = inl (ap opened (sets.at ∙ ap (λ o. option_and_then unless_idle o) is) ∙ sym (ap opened is))
    by_queue (Some q) is =
        let at : new name ≡ unless_idle q = sets.at ∙ ap (λ o. option_and_then unless_idle o) is in
        elim (cases_Bool (is_idle q)) [
          | inl on ↦
              let none : unless_idle q ≡ None = rw on refl in
              let idle : is_idle (queue_of old name) ≡ true = ap (λ o. is_idle (opened o)) is ∙ on in
              inr (idle, ap opened (at ∙ none))
          | inr off ↦
              let some : unless_idle q ≡ Some q = rw off refl in
              inl (ap opened (at ∙ some ∙ sym is))
        ]

-- one that was opened just before
pub closes_again : (a b c : List ℕ → Option Queue) (name : List ℕ) → Sets a b name (Some (opened (a name)))
    → Sets b c name (option_and_then unless_idle (b name)) → Closes a c
closes_again a b c name p q d = elim (closes b c name q d) [
  | inl same ↦ inl (same ∙ opens a b name p d)
  | inr idle ↦ inr (ap is_idle (sym (opens a b name p d)) ∙ idle.0, idle.1)
]

no_length : {A : Type 0} (xs : List A) → (length xs == 0) ≡ true → xs ≡ []
no_length [] on = refl
no_length (x ∷ xs) on = absurd (omega (arith, eqb-true (length (x ∷ xs)) 0 on))

module _ (h : Holding) (is : IsSound h) (i : Holding) (c : Closes h.queues i.queues) where
  idle_parts : (d : List ℕ) → is_idle (queue_of h.queues d) ≡ true
      → ((queue_of h.queues d).numbers ≡ []) × ((queue_of h.queues d).subscribers ≡ [])
  idle_parts d idle =
      let parts =
      and_parts (length (queue_of h.queues d).numbers == 0) (length (queue_of h.queues d).subscribers == 0) idle in
      (no_length (queue_of h.queues d).numbers parts.0, no_length (queue_of h.queues d).subscribers parts.1)

  -- no message goes to an idle one
  none_idle : (d : List ℕ) → is_idle (queue_of h.queues d) ≡ true → (n : ℕ) (k : Kept) → kept_at n h.kept ≡ Some k
      → weight (is_for d) (message_of k) ≡ 0
  none_idle d idle n k there = elim (cases_Bool (bytes_eq k.sent.destination d)) [
    | inl on ↦
        let same : k.sent.destination ≡ d = same_texts k.sent.destination d on in
        let placed : lists n (queue_of h.queues d).numbers ≡ true =
        ap (λ e. lists n (queue_of h.queues e).numbers) (sym same) ∙ is.placed n k there in
        let never : false ≡ true = ap (λ ps. lists n ps) (sym (idle_parts d idle).0) ∙ placed in cc
    | inr off ↦ weightless k.fate off
  ]
    where
      weightless : (f : Option Fate) → bytes_eq k.sent.destination d ≡ false
          → weight (is_for d) (living_as k.number k.sent f) ≡ 0
      weightless None off = refl
      weightless (Some f) off = rw off refl

  same_count : (d : List ℕ) → (queue_of i.queues d).count ≡ (queue_of h.queues d).count
  same_count d = elim (c d) [
    | inl same ↦ ap (λ (q : Queue). q.count) same
    | inr idle ↦
        ap (λ (q : Queue). q.count) idle.1
        ∙ sym (is.counted d ∙ count_zero (is_for d) h.kept is.numbers (λ n k there. none_idle d idle.0 n k there))
  ]

  earlier : (d : List ℕ) → ((queue_of i.queues d).ready_from ≤ (queue_of h.queues d).ready_from)
      × ((queue_of i.queues d).taker_from ≤ (queue_of h.queues d).taker_from)
  earlier d = elim (c d) [
    | inl same ↦ rw same (omega arith, omega arith)
    | inr idle ↦ rw idle.1 (omega arith, omega arith)
  ]

  pub shut : i.kept ≡ h.kept → i.subscribers ≡ h.subscribers → i.sessions ≡ h.sessions → i.awake ≡ h.awake
      → i.last ≡ h.last
      → i.given ≡ h.given → LooksElsewhere h i
  shut kept subscribers sessions awake last given = record {
    kept = kept;
    subscribers = subscribers;
    sessions = sessions;
    last = last;
    given = given;
    numbers = λ d. elim (c d) [
      | inl same ↦ ap (λ (q : Queue). q.numbers) same
      | inr idle ↦ ap (λ (q : Queue). q.numbers) idle.1 ∙ sym (idle_parts d idle.0).0
    ];
    listeners = λ d. elim (c d) [
      | inl same ↦ ap (λ (q : Queue). q.subscribers) same
      | inr idle ↦ ap (λ (q : Queue). q.subscribers) idle.1 ∙ sym (idle_parts d idle.0).1
    ];
    count = same_count;
    ahead = λ n k there ready. omega (arith, (earlier k.sent.destination).0, is.ahead n k there ready);
    takers = λ a s there may. omega (arith, (earlier s.subscription.destination).1, is.takers a s there may);
    awake = λ n k a s there ready sits same may. rw awake (is.awake n k a s there ready sits same may);
  }

-- nothing happens
pub stays : (h : Holding) → IsSound h → LooksElsewhere h h
stays h is = record {
  kept = refl;
  subscribers = refl;
  sessions = refl;
  last = refl;
  given = refl;
  numbers = λ d. refl;
  listeners = λ d. refl;
  count = λ d. refl;
  ahead = is.ahead;
  takers = is.takers;
  awake = is.awake;
}

-- ---- a message comes

module _ (h : Holding) (is : IsSound h) (sent : Sent) (place : KeyedPlace) (q : List ℕ → Option Queue) (i : Holding)
    (number : place.number ≡ h.last + 1) (b : Becomes (adding place) h.queues q sent.destination)
    (l : LooksFrom q i.queues sent.destination place.number) where
  -- the queue of its destination, or another one
  at : (d : List ℕ) → ((bytes_eq sent.destination d ≡ true) × (queue_of q d ≡ adding place (queue_of h.queues d)))
      ⊎ ((bytes_eq sent.destination d ≡ false) × (queue_of q d ≡ queue_of h.queues d))
  at d = either (adding place) h.queues q sent.destination b d

  listed : (d : List ℕ) (m : ℕ) → lists m (queue_of h.queues d).numbers ≡ true
      → lists m (queue_of i.queues d).numbers ≡ true
  listed d m there = ap (λ ps. lists m ps) (l.lowers.numbers d) ∙ elim (at d) [
    | inl on ↦ rw on.1 (lists_still m (queue_of h.queues d).numbers place there)
    | inr off ↦ rw off.1 there
  ]

  added : lists (h.last + 1) (queue_of i.queues sent.destination).numbers ≡ true
  added = ap (λ ps. lists (h.last + 1) ps) (l.lowers.numbers sent.destination) ∙ elim (at sent.destination) [
    | inl on ↦ rw (on.1, ← number) (lists_last (queue_of h.queues sent.destination).numbers place)
    | inr off ↦ let never : true ≡ false = sym (itself sent.destination) ∙ off.0 in cc
  ]

  pub lists_only : ListsOnly h sent i
  lists_only d m there =
      let there2 : lists m (queue_of q d).numbers ≡ true = sym (ap (λ ps. lists m ps) (l.lowers.numbers d)) ∙ there in
      elim (at d) [
        | inl on ↦
            let there3 : lists m ((queue_of h.queues d).numbers ++ place ∷ []) ≡ true =
            ap (λ (r : Queue). lists m r.numbers) (sym on.1) ∙ there2 in
            elim (lists_was m (queue_of h.queues d).numbers place there3) [
              | inl old ↦ inl old
              | inr new ↦ inr (new ∙ number, sym (same_texts sent.destination d on.0))
            ]
        | inr off ↦ inl (ap (λ (r : Queue). lists m r.numbers) (sym off.1) ∙ there2)
      ]

  counts : (d : List ℕ) → (queue_of i.queues d).count
      ≡ (queue_of h.queues d).count + weight (is_for d) (message_of (new_kept (h.last + 1) sent))
  counts d = l.counts d ∙ elim (at d) [
    | inl on ↦ rw (on.1, on.0) (omega arith)
    | inr off ↦ rw (off.1, off.0) (omega arith)
  ]

  same_places : (d : List ℕ) → ((queue_of q d).subscribers ≡ (queue_of h.queues d).subscribers)
      × ((queue_of q d).ready_from ≡ (queue_of h.queues d).ready_from)
      × ((queue_of q d).taker_from ≡ (queue_of h.queues d).taker_from)
  same_places d = elim (at d) [
    | inl on ↦ rw on.1 (refl, refl, refl)
    | inr off ↦ rw off.1 (refl, refl, refl)
  ]

  pub stored : i.kept ≡ h.kept ++ new_kept place.number sent ∷ [] → i.subscribers ≡ h.subscribers
      → i.sessions ≡ h.sessions
      → i.last ≡ place.number → i.given ≡ h.given → Wakes h.awake i.awake → i.awake sent.destination ≡ true
      → Puts h sent i
  stored kept subscribers sessions last given wakes awake = record {
    kept = kept ∙ ap (λ n. h.kept ++ new_kept n sent ∷ []) number;
    subscribers = subscribers;
    sessions = sessions;
    last = last ∙ number;
    given = given;
    numbers = listed;
    added = added;
    listed = λ d m there. elim (lists_only d m there) [
      | inl old ↦ omega (arith, is.listed_last d m old)
      | inr new ↦ omega (arith, new.0)
    ];
    count = counts;
    listeners = λ d. l.lowers.subscribers d ∙ (same_places d).0;
    ready = λ d. omega (arith, l.lowers.ready d, (same_places d).1);
    ready_from = omega (arith, l.from);
    takers = λ d. omega (arith, l.lowers.takers d, (same_places d).2);
    wakes = wakes;
    awake = awake;
  }
