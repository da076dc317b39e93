-- A subscriber goes: its subscription is released.
use Rattle.std.proofs.Common.{◌≡◌, ◌≤◌, ℕ, true, false, not, List, map, Option, Some, None, refl, sym, ap, ◌∙◌, arith}
use Rattle.std.proofs.Common.{inl, inr}
use Rattle.std.specs.Prelude.{◌==◌, filter}
use Rattle.std.specs.Option.{option_map, option_and_then}
use Rattle.std.proofs.lemmas.Bool.{cases_eq}
use Rattle.broker_book.specs.declared.parts.Accepted.{Accepted}
use Rattle.broker_book.specs.declared.parts.Subscription.{Subscription}
use Rattle.broker_book.specs.Books.{out_to}
use Rattle.broker_index.specs.Index.{Kept, Subscriber, Queue, Sets, opened, unless_idle, without, without_subscriber}
use Rattle.broker_index.specs.declared.places.KeyedPlace.{KeyedPlace}
use Rattle.broker_queues.specs.Parts.Fates.{passes, back, counts_in, turn_among}
use Rattle.broker_queues.specs.Parts.Held.{Turns}
use Rattle.broker_queues.specs.Parts.Facts.{kept_at, subscriber_at, destination_at, session_at, lists, queue_of}
use Rattle.broker_queues.specs.Parts.Storing.{Detached, Detaches, Releases}
use Rattle.broker_queues.specs.Parts.Whole.{Holding, IsSound, Leaves, LooksElsewhere, book_of}
use Rattle.broker_queues.proofs.Adding.{closes, shut}
use Rattle.broker_queues.proofs.Listing.{lists_gone, lists_other}
use Rattle.broker_queues.proofs.Moving.{moved}
use Rattle.broker_queues.proofs.Releasing.{none_out, released_book}
use Rattle.broker_queues.proofs.Rising.{rise_filter}
use Rattle.broker_queues.proofs.Setting.{sets_map}
use Rattle.broker_queues.proofs.Subscribing.{went}
use Rattle.broker_queues.proofs.Swept.{none_same, none_turned}

module _ (h i : Holding) (is : IsSound h) (age : ℕ) (s : Subscriber) (q : List ℕ → Option Queue)
    (sits : subscriber_at age h.subscribers ≡ Some s)
    (quiet : (n : ℕ) (k : Kept) → kept_at n h.kept ≡ Some k
    → passes (out_to s.subscription.session s.subscription.id) k.fate ≡ false)
    (p : Sets h.queues q s.subscription.destination
    (option_map (without_subscriber age) (h.queues s.subscription.destination)))
    (r : Sets q i.queues s.subscription.destination (option_and_then unless_idle (q s.subscription.destination)))
    (o : Sets h.sessions i.sessions s.subscription.session (without age (h.sessions s.subscription.session))) where
  -- before its destination's queue is closed
  abbrev without_it : Holding
  without_it = record h {
    subscribers = filter (λ s. not (s.age == age)) h.subscribers;
    queues = q;
    sessions = i.sessions;
  }

  kept_in : (R : Queue → Queue → Type 0) → ((x : Queue) → R x x) → ((x : Queue) → R x (without_subscriber age x))
      → (d : List ℕ)
      → R (queue_of h.queues d) (queue_of q d)
  kept_in R same change =
      sets_map (λ d x y. R x y) (without_subscriber age) h.queues q s.subscription.destination (λ d x. same x)
      (λ x at. change x) p

  -- nothing lists it at its destination
  unlisted : lists age (queue_of q s.subscription.destination).subscribers ≡ false
  unlisted = by_queue (h.queues s.subscription.destination) refl
    where
      by_queue : (x : Option Queue) → h.queues s.subscription.destination ≡ x
          → lists age (queue_of q s.subscription.destination).subscribers ≡ false
      by_queue None at =
          ap (λ x. lists age (opened x).subscribers) (p.at ∙ ap (λ x. option_map (without_subscriber age) x) at)
      by_queue (Some x) at =
          ap (λ x. lists age (opened x).subscribers) (p.at ∙ ap (λ x. option_map (without_subscriber age) x) at)
          ∙ lists_gone age x.subscribers

  was_listed : (d : List ℕ) (a : ℕ) → lists a (queue_of q d).subscribers ≡ true
      → lists a (queue_of h.queues d).subscribers ≡ true
  was_listed d a =
      kept_in (λ x y. lists a y.subscribers ≡ true → lists a x.subscribers ≡ true) (λ x there. there) (λ x. was x) d
    where
      was : (x : Queue) → lists a (without_subscriber age x).subscribers ≡ true → lists a x.subscribers ≡ true
      was x there = elim (cases_eq a age) [
        | inl same ↦
            let here : lists age (without_subscriber age x).subscribers ≡ true = rw same at there in
            let never : false ≡ true = sym (lists_gone age x.subscribers) ∙ here in cc
        | inr other ↦ sym (lists_other age a x.subscribers other) ∙ there
      ]

  -- nothing lists it at all
  away : (d : List ℕ) (a : ℕ) → lists a (queue_of q d).subscribers ≡ true → a ≡ age → ⊥
  away d a listed same =
      let here : lists age (queue_of q d).subscribers ≡ true = rw same at listed in
      let own : destination_at age h.subscribers ≡ Some d = is.listeners d age (was_listed d age here) in
      let mine : destination_at age h.subscribers ≡ Some s.subscription.destination =
      ap (λ x. option_map (λ (u : Subscriber). u.subscription.destination) x) sits in
      let both : Some s.subscription.destination ≡ Some d = sym mine ∙ own in
      let e : s.subscription.destination ≡ d = cc in
      let off : lists age (queue_of q d).subscribers ≡ false =
      ap (λ d. lists age (queue_of q d).subscribers) (sym e) ∙ unlisted in
      let never : true ≡ false = sym here ∙ off in
      cc

  -- no session has it any more
  own_session : (x a : ℕ) → lists a (i.sessions x) ≡ true → (a ≡ age → ⊥) × (lists a (h.sessions x) ≡ true)
  own_session x a listed = elim (cases_eq x s.subscription.session) [
    | inl same ↦
        let here : lists a (without age (h.sessions s.subscription.session)) ≡ true =
        ap (λ ps. lists a ps) (sym (ap i.sessions same ∙ o.at)) ∙ listed in
        elim (cases_eq a age) [
          | inl gone ↦
              let here2 : lists age (without age (h.sessions s.subscription.session)) ≡ true = rw gone at here in
              let never : false ≡ true = sym (lists_gone age (h.sessions s.subscription.session)) ∙ here2 in cc
          | inr other ↦
              (other, rw same (sym (lists_other age a (h.sessions s.subscription.session) other) ∙ here))
        ]
    | inr other ↦
        let here : lists a (h.sessions x) ≡ true = ap (λ ps. lists a ps) (sym (o.others x other)) ∙ listed in
        (another x a other here, here)
  ]
    where
      another : (x a : ℕ) → (x ≡ s.subscription.session → ⊥) → lists a (h.sessions x) ≡ true → a ≡ age → ⊥
      another x a other here same =
          let own : session_at a h.subscribers ≡ Some x = is.owners x a here in
          let mine : session_at a h.subscribers ≡ Some s.subscription.session =
          ap (λ x. option_map (λ (u : Subscriber). u.subscription.session) x)
          (ap (λ b. subscriber_at b h.subscribers) same ∙ sits) in
          let both : Some s.subscription.session ≡ Some x = sym mine ∙ own in
          let e : s.subscription.session ≡ x = cc in
          other (sym e)

  still_owned : (x a : ℕ) → (a ≡ age → ⊥) → lists a (h.sessions x) ≡ true → lists a (i.sessions x) ≡ true
  still_owned x a other listed = elim (cases_eq x s.subscription.session) [
    | inl same ↦
        ap (λ ps. lists a ps) (ap i.sessions same ∙ o.at) ∙ lists_other age a (h.sessions s.subscription.session) other
        ∙ (ap (λ y. lists a (h.sessions y)) (sym same) ∙ listed)
    | inr another ↦ ap (λ ps. lists a ps) (o.others x another) ∙ listed
  ]

  leaves : Leaves h age s without_it
  leaves = record {
    found = sits;
    none_out = quiet;
    subscribers = refl;
    kept = refl;
    last = refl;
    given = refl;
    numbers = kept_in (λ x y. y.numbers ≡ x.numbers) (λ x. refl) (λ x. refl);
    count = kept_in (λ x y. y.count ≡ x.count) (λ x. refl) (λ x. refl);
    ready = kept_in (λ x y. y.ready_from ≤ x.ready_from) (λ x. omega arith) (λ x. omega arith);
    takers = kept_in (λ x y. y.taker_from ≤ x.taker_from) (λ x. omega arith) (λ x. omega arith);
    listening =
        λ d a other. kept_in (λ x y. lists a x.subscribers ≡ true → lists a y.subscribers ≡ true) (λ x there. there)
        (λ x there. lists_other age a x.subscribers other ∙ there) d;
    listeners = λ d a listed. (away d a listed, was_listed d a listed);
    owned = still_owned;
    owners = own_session;
    owned_rise = λ x. elim (cases_eq x s.subscription.session) [
      | inl same ↦ rw (same, o.at) (rise_filter (λ p. p.number) (λ p. not (p.number == age)) 0
          (h.sessions s.subscription.session) (is.owned_rise s.subscription.session))
      | inr other ↦ rw (o.others x other) (is.owned_rise x)
    ];
    wakes = λ d awake. awake;
  }

  pub detached : i.kept ≡ h.kept → i.subscribers ≡ filter (λ s. not (s.age == age)) h.subscribers → i.awake ≡ h.awake
      → i.last ≡ h.last → i.given ≡ h.given → Detached h age s i
  detached kept subscribers awake last given = record {
    between = without_it;
    leaves = leaves;
    moves = shut without_it (went h age s without_it is leaves) i (closes q i.queues s.subscription.destination r)
        kept subscribers refl awake last given;
    session = o.at;
  }

-- ---- the book

pub same_book : (h i : Holding) → LooksElsewhere h i → (accepted : List Accepted)
    → book_of i accepted ≡ book_of h accepted
same_book h i m accepted = rw (m.kept, m.subscribers, m.last, m.given) refl

module _ (h i j : Holding) (is : IsSound h) (age : ℕ) (s : Subscriber) (sits : subscriber_at age h.subscribers ≡ Some s)
    (t : Turns h age s (back true) (counts_in s.subscription None) s.entries i) (detaches : Detaches i age j) where
  goes : Detached i age t.now j
  goes = detaches t.now t.sound t.sits (none_out h i is age s sits t)

  pub releases : Releases h age s j
  releases = record {
    sound = moved goes.between j (went i age t.now goes.between t.sound goes.leaves) goes.moves;
    book = λ accepted. same_book goes.between j goes.moves accepted
        ∙ released_book h i is age s sits t accepted goes.between goes.leaves;
    session = ap (λ (u : Subscription). j.sessions u.session) (sym t.subscription) ∙ goes.session
        ∙ ap (λ (u : Subscription). without age (i.sessions u.session)) t.subscription
        ∙ ap (λ (f : ℕ → List KeyedPlace). without age (f s.subscription.session)) t.sessions;
    none_gone = λ none. none_same (map (turn_among (back true) (counts_in s.subscription None) s.entries) h.kept) j.kept
        (goes.moves.kept ∙ goes.leaves.kept
        ∙ t.kept) (none_turned (counts_in s.subscription None) s.entries h.kept none);
  }
