-- What is no longer needed goes: the book stays.
use Rattle.std.proofs.Common.{◌≡◌, ◌≤◌, ℕ, Bool, true, false, not, List, map, Option, Some, None, Ok, refl, sym, ap}
use Rattle.std.proofs.Common.{◌∙◌, arith, inl, inr}
use Rattle.std.specs.Prelude.{◌==◌, filter, find}
use Rattle.std.specs.Option.{option_map, option_and_then}
use Rattle.std.specs.Prelude.{if◌then◌else◌}
use Rattle.std.specs.Str.{bytes_eq}
use Rattle.std.proofs.lemmas.Bool.{cases_Bool, cases_eq, and_from, and_parts, eq-eqb, false_from_ne_true, ne_eqb}
use Rattle.std.proofs.lemmas.Slice.Eq.{bytes_eq-Decides}
use Rattle.broker_book.specs.declared.parts.Accepted.{Accepted}
use Rattle.broker_book.specs.Books.{Fate, Out, out_to, is_named}
use Rattle.broker_index.specs.Index.{Kept, Subscriber, Queue, Sets, entries_without, opened, unless_idle}
use Rattle.broker_index.specs.Index.{taken_number, without_entries, without_number}
use Rattle.broker_index.specs.declared.places.Entry.{Entry}
use Rattle.broker_index.specs.declared.places.KeyedPlace.{KeyedPlace}
use Rattle.broker_queues.specs.Parts.Fates.{passes, fate_of_kept, is_held_at}
use Rattle.broker_queues.specs.Parts.Held.{TurnsAll, step_of}
use Rattle.broker_queues.specs.Parts.Facts.{kept_at, subscriber_at, living_of, subscriptions_of, lists, notes, queue_of}
use Rattle.broker_queues.specs.Parts.Facts.{holds_number}
use Rattle.broker_queues.specs.Parts.Storing.{Forgets, Sweeps, Takes, Tidies, is_gone}
use Rattle.broker_queues.specs.Parts.Whole.{Holding, IsSound, LooksElsewhere, Purges, Renotes, book_of}
use Rattle.broker_queues.proofs.Adding.{closes, shut}
use Rattle.broker_queues.proofs.Listing.{lists_gone, lists_other, map_after, notes_other}
use Rattle.broker_queues.proofs.Living.{living_purge}
use Rattle.broker_queues.proofs.Moving.{moved, renoted}
use Rattle.broker_queues.proofs.Putting.{purge_keeps}
use Rattle.broker_queues.proofs.Responding.{responded}
use Rattle.broker_queues.proofs.Rising.{at_filter, at_filter_other}
use Rattle.broker_queues.proofs.Setting.{sets_map}
use Rattle.broker_queues.proofs.Subscribing.{itself, name_parts, out_passes}

-- ---- a message is taken from a queue, and then the queue out if it is idle

-- what is between the two
abbrev pub between : (List ℕ → Option Queue) → List ℕ → ℕ → List ℕ → Option Queue
between queues name n d = if bytes_eq name d then option_map (without_number n) (queues d) else queues d

pub isnt : (name d : List ℕ) → (d ≡ name → ⊥) → bytes_eq name d ≡ false
isnt name d differs = false_from_ne_true (bytes_eq name d) (λ on. differs (sym ((bytes_eq-Decides name d).0 on)))

-- a number is taken from its queue first
pub taken_first : (queues : List ℕ → Option Queue) (name : List ℕ) (n : ℕ)
    → Sets queues (between queues name n) name (option_map (without_number n) (queues name))
taken_first queues name n = record { at = rw (itself name) refl; others = λ d differs. rw (isnt name d differs) refl }

-- then the queue is taken out, if it is idle
pub taken_then : (queues now : List ℕ → Option Queue) (name : List ℕ) (n : ℕ)
    → Sets queues now name (option_and_then (taken_number n) (queues name))
    → Sets (between queues name n) now name (option_and_then unless_idle (between queues name n name))
taken_then queues now name n sets = record {
  at = rw (itself name) (sets.at ∙ by_queue (queues name));
  others = λ d differs. rw (isnt name d differs) (sets.others d differs);
}
  where
    by_queue : (o : Option Queue)
        → option_and_then (taken_number n) o ≡ option_and_then unless_idle (option_map (without_number n) o)
    by_queue None = refl
    by_queue (Some x) = refl

-- ---- nothing, one thing after another, places alone

-- a sound book is tidy as it is
pub tidy : (h : Holding) → IsSound h → Tidies h h
tidy h is = record { sound = is; living = refl; subscriptions = refl; last = refl; given = refl }

-- two steps that keep the book tidy keep it tidy
pub tidies : (h i j : Holding) → Tidies h i → Tidies i j → Tidies h j
tidies h i j p q = record {
  sound = q.sound;
  living = q.living ∙ p.living;
  subscriptions = q.subscriptions ∙ p.subscriptions;
  last = q.last ∙ p.last;
  given = q.given ∙ p.given;
}

pub tidy_moves : (h i : Holding) → IsSound h → LooksElsewhere h i → Tidies h i
tidy_moves h i is m = record {
  sound = moved h i is m;
  living = ap living_of m.kept;
  subscriptions = ap subscriptions_of m.subscribers;
  last = m.last;
  given = m.given;
}

-- ---- a message is taken out

-- a gone one has no fate
pub gone_none : (f : Option Fate) → is_gone f ≡ true → f ≡ None
gone_none None gone = refl
gone_none (Some f) gone = let never : false ≡ true = gone in cc

module _ (h i : Holding) (is : IsSound h) (n : ℕ) (k : Kept) (q : List ℕ → Option Queue) (name : List ℕ)
    (found : kept_at n h.kept ≡ Some k) (gone : k.fate ≡ None)
    (p : Sets h.queues q name (option_map (without_number n) (h.queues name)))
    (r : Sets q i.queues name (option_and_then unless_idle (q name))) where
  -- before its destination's queue is closed
  abbrev taken : Holding
  taken = record h { kept = filter (λ k. not (k.number == n)) h.kept; queues = q }

  takes_out : Purges h n taken
  takes_out = record {
    kept = refl;
    subscribers = refl;
    sessions = refl;
    last = refl;
    given = refl;
    numbers = λ d m other. sets_map (λ d x y. lists m x.numbers ≡ true → lists m y.numbers ≡ true) (without_number n)
        h.queues q name
        (λ d x there. there) (λ x at there. lists_other n m x.numbers other ∙ there) p d;
    listed = λ d m. sets_map (λ d x y. lists m y.numbers ≡ true → lists m x.numbers ≡ true) (without_number n) h.queues
        q name
        (λ d x there. there) (λ x at there. was m x there) p d;
    count = sets_map (λ d x y. y.count ≡ x.count) (without_number n) h.queues q name (λ d x. refl) (λ x at. refl) p;
    listeners = sets_map (λ d x y. y.subscribers ≡ x.subscribers) (without_number n) h.queues q name (λ d x. refl)
        (λ x at. refl) p;
    ready = sets_map (λ d x y. y.ready_from ≤ x.ready_from) (without_number n) h.queues q name (λ d x. omega arith)
        (λ x at. omega arith) p;
    takers = sets_map (λ d x y. y.taker_from ≤ x.taker_from) (without_number n) h.queues q name (λ d x. omega arith)
        (λ x at. omega arith) p;
    wakes = λ d awake. awake;
  }
    where
      was : (m : ℕ) (x : Queue) → lists m (without_number n x).numbers ≡ true → lists m x.numbers ≡ true
      was m x there = elim (cases_eq m n) [
        | inl same ↦
            let here : lists n (without_number n x).numbers ≡ true = rw same at there in
            let never : false ≡ true = sym (lists_gone n x.numbers) ∙ here in cc
        | inr other ↦ sym (lists_other n m x.numbers other) ∙ there
      ]

  pub purged : i.kept ≡ filter (λ k. not (k.number == n)) h.kept → i.subscribers ≡ h.subscribers
      → i.sessions ≡ h.sessions
      → i.awake ≡ h.awake → i.last ≡ h.last → i.given ≡ h.given → Tidies h i
  purged kept subscribers sessions awake last given =
      let before : IsSound taken = purge_keeps h n k taken is found gone takes_out in
      let m : LooksElsewhere taken i =
      shut taken before i (closes q i.queues name r) kept subscribers sessions awake last given in
      record {
        sound = moved taken i before m;
        living = ap living_of kept ∙ living_purge n 0 h.kept k is.numbers found gone;
        subscriptions = ap subscriptions_of subscribers;
        last = last;
        given = given;
      }

  -- nothing lists it at its destination
  unlisted : lists n (queue_of q name).numbers ≡ false
  unlisted = by_queue (h.queues name) refl
    where
      by_queue : (x : Option Queue) → h.queues name ≡ x → lists n (queue_of q name).numbers ≡ false
      by_queue None at = ap (λ x. lists n (opened x).numbers) (p.at ∙ ap (λ x. option_map (without_number n) x) at)
      by_queue (Some x) at =
          ap (λ x. lists n (opened x).numbers) (p.at ∙ ap (λ x. option_map (without_number n) x) at)
          ∙ lists_gone n x.numbers

  pub taken_away : name ≡ k.sent.destination → i.kept ≡ filter (λ k. not (k.number == n)) h.kept
      → i.subscribers ≡ h.subscribers
      → i.sessions ≡ h.sessions → i.awake ≡ h.awake → i.last ≡ h.last → i.given ≡ h.given → Takes h n k i
  taken_away own kept subscribers sessions awake last given =
      let before : IsSound taken = purge_keeps h n k taken is found gone takes_out in
      let m : LooksElsewhere taken i =
      shut taken before i (closes q i.queues name r) kept subscribers sessions awake last given in
      record {
        kept = kept;
        subscribers = subscribers;
        last = last;
        given = given;
        listed = λ d m2 there. takes_out.listed d m2 (sym (ap (λ ps. lists m2 ps) (m.numbers d)) ∙ there);
        away = ap (λ ps. lists n ps) (m.numbers k.sent.destination) ∙ ap (λ d. lists n (queue_of q d).numbers) (sym own)
            ∙ unlisted;
      }

-- the others stay
pub leaves_others : (h i : Holding) (n : ℕ) → i.kept ≡ filter (λ k. not (k.number == n)) h.kept
    → i.subscribers ≡ h.subscribers
    → Forgets h n i
leaves_others h i n kept subscribers = record {
  subscribers = subscribers;
  kept = λ m k there. elim (cases_eq m n) [
    | inl same ↦ absurd (away m k there same)
    | inr other ↦ sym (at_filter_other (λ (k : Kept). k.number) n m other h.kept) ∙ here m k there
  ];
  gone = λ m k there same. absurd (away m k there same);
}
  where
    here : (m : ℕ) (k : Kept) → kept_at m i.kept ≡ Some k
        → kept_at m (filter (λ k. not (k.number == n)) h.kept) ≡ Some k
    here m k there = ap (λ l. kept_at m l) (sym kept) ∙ there

    away : (m : ℕ) (k : Kept) → kept_at m i.kept ≡ Some k → m ≡ n → ⊥
    away m k there same =
        let gone : kept_at n (filter (λ k. not (k.number == n)) h.kept) ≡ Some k = rw same at (here m k there) in
        let never : None ≡ Some k = sym (at_filter (λ (k : Kept). k.number) n h.kept) ∙ gone in
        cc

-- ---- a delivery is forgotten

module _ (h : Holding) (is : IsSound h) (age n : ℕ) (s : Subscriber) (sits : subscriber_at age h.subscribers ≡ Some s)
    (off : passes (out_to s.subscription.session s.subscription.id) (fate_of_kept (kept_at n h.kept)) ≡ false) where
  abbrev after : Holding
  after = record h { subscribers = map (without_entries age n) h.subscribers }

  -- what is out is still noted
  noted_still : (m : ℕ) (k : Kept) (x : ℕ) (j : List ℕ) (a : ℕ) (u : Subscriber) → kept_at m h.kept ≡ Some k
      → k.fate ≡ Some (Out x j a) → subscriber_at u.age h.subscribers ≡ Some u → holds_number x j m u ≡ true
      → holds_number x j m (without_entries age n u) ≡ true
  noted_still m k x j a u there out here holds = elim (cases_eq u.age age) [
    | inl own ↦ elim (cases_eq m n) [
      | inl same ↦ absurd (never own same)
      | inr other ↦
          let number : (u.age == age) ≡ true = eq-eqb u.age age own in
          let forgets : without_entries age n u ≡ record u { entries = entries_without n u.entries } = rw number refl in
          let parts = and_parts (is_named x j u.subscription) (notes m u.entries) holds in
          let noted : notes m (entries_without n u.entries) ≡ true = notes_other n m u.entries other ∙ parts.1 in
          ap (holds_number x j m) forgets
          ∙ and_from (is_named x j u.subscription) (notes m (entries_without n u.entries)) parts.0 noted
    ]
    | inr other ↦
        let number : (u.age == age) ≡ false = ne_eqb u.age age other in
        let stays : without_entries age n u ≡ u = rw number refl in
        ap (holds_number x j m) stays ∙ holds
  ]
    where
      never : u.age ≡ age → m ≡ n → ⊥
      never own same =
          let both : Some u ≡ Some s = sym here ∙ ap (λ b. subscriber_at b h.subscribers) own ∙ sits in
          let e : u ≡ s = cc in
          let name =
          name_parts x j u.subscription (and_parts (is_named x j u.subscription) (notes m u.entries) holds).0 in
          let session : s.subscription.session ≡ x = ap (λ (v : Subscriber). v.subscription.session) (sym e) ∙ name.0 in
          let id : s.subscription.id ≡ j = ap (λ (v : Subscriber). v.subscription.id) (sym e) ∙ name.1 in
          let fate : fate_of_kept (kept_at n h.kept) ≡ Some (Out x j a) =
          ap (λ b. fate_of_kept (kept_at b h.kept)) (sym same) ∙ ap fate_of_kept there ∙ out in
          let on : passes (out_to x j) (fate_of_kept (kept_at n h.kept)) ≡ true =
          out_passes x j a (fate_of_kept (kept_at n h.kept)) fate in
          let off2 : passes (out_to x j) (fate_of_kept (kept_at n h.kept)) ≡ false = rw (session, id) at off in
          let no : true ≡ false = sym on ∙ off2 in
          cc

  forgets_kept : (f : Subscriber → ℕ) → ((u : Subscriber) (es : List Entry) → f (record u { entries = es }) ≡ f u)
      → (u : Subscriber)
      → f (without_entries age n u) ≡ f u
  forgets_kept f same u = elim (cases_Bool (u.age == age)) [
    | inl on ↦ rw on (same u (entries_without n u.entries))
    | inr off ↦ rw off refl
  ]

  forgets_subscription : (u : Subscriber) → (without_entries age n u).subscription ≡ u.subscription
  forgets_subscription u = elim (cases_Bool (u.age == age)) [ inl on ↦ rw on refl | inr off ↦ rw off refl ]

  forgets : Renotes h (without_entries age n) after
  forgets = record {
    changed = refl;
    age = forgets_kept (λ u. u.age) (λ u es. refl);
    subscription = forgets_subscription;
    count = forgets_kept (λ u. u.count) (λ u es. refl);
    noted = noted_still;
  }

  pub forgot : (subscribers : List Subscriber) → subscribers ≡ map (without_entries age n) h.subscribers
      → Tidies h (record h { subscribers = subscribers })
  forgot subscribers is_so = rw is_so (record {
    sound = renoted h (without_entries age n) is forgets;
    living = refl;
    subscriptions =
        map_after (λ (u : Subscriber). u.subscription) (without_entries age n) forgets_subscription h.subscribers;
    last = refl;
    given = refl;
  })

-- ---- the book

pub tidy_book : (h i : Holding) → Tidies h i → (accepted : List Accepted) → book_of i accepted ≡ book_of h accepted
tidy_book h i t accepted = rw (t.living, t.subscriptions, t.last, t.given) refl

-- an answer, and then a subscriber's deliveries are swept
pub answered : (h i j : Holding) (accepted : List Accepted) (x number : ℕ) (again : Bool) (p : KeyedPlace) → IsSound h
    → find (is_held_at h.kept h.subscribers number) (h.sessions x) ≡ Some p → TurnsAll h p.number (Some number) again i
    → Sweeps i j
    → IsSound j × (step_of again (book_of h accepted) x number ≡ Ok (book_of j accepted))
answered h i j accepted x number again p is found turns sweeps =
    let step = responded h i accepted x number again p is found turns in
    let t : Tidies i j = sweeps step.0 in
    (t.sound, step.1 ∙ ap (λ b. Ok b) (sym (tidy_book i j t accepted)))
