-- A destination is looked at: what it finds first is what is due there first.
use Rattle.std.proofs.Common.{◌≡◌, ◌≤◌, ◌<◌, ℕ, Bool, true, false, List, Option, Some, None, refl, sym, ap, ◌∙◌, arith}
use Rattle.std.proofs.Common.{inl, inr}
use Rattle.std.specs.Prelude.{◌==◌, ◌∷◌, [], All, IfSome}
use Rattle.std.specs.Str.{bytes_eq}
use Rattle.std.proofs.lemmas.Bool.{cases_Bool, cases_order, and_parts, and_from, le-leb}
use Rattle.std.proofs.lemmas.List.Elements.{All-head, All-tail}
use Rattle.std.proofs.lemmas.Slice.Eq.{bytes_eq-Decides}
use Rattle.broker_book.specs.Books.{Fate, Ready, Out, is_ready_fate}
use Rattle.broker_index.specs.Index.{Kept, Subscriber, Queue}
use Rattle.broker_index.specs.declared.places.KeyedPlace.{KeyedPlace}
use Rattle.broker_queues.specs.Parts.Choosing.{Rests, Looked, pick_of}
use Rattle.broker_queues.specs.Parts.Dealings.{SeeksReady, SeeksTaker, FirstOf, is_open, is_free, opens, takes_more}
use Rattle.broker_queues.specs.Parts.Fates.{passes}
use Rattle.broker_queues.specs.Parts.Facts.{kept_at, subscriber_at, lists, may_have, queue_of, AreAhead, AreTakers}
use Rattle.broker_queues.specs.Parts.Whole.{Holding, IsSound, LooksElsewhere}
use Rattle.broker_queues.proofs.Moving.{moved}
use Rattle.broker_queues.proofs.Rising.{at_number}
use Rattle.broker_queues.proofs.Subscribing.{itself, same_texts}

-- no later than the place that was found; nothing was, and so it can't be
abbrev pub NoLater : Option KeyedPlace → ℕ → Type 0
NoLater None number = ⊥
NoLater (Some p) number = p.number ≤ number

-- what passes a test and is listed is no later than the first that does
no_later : (test : ℕ → Bool) (places : List KeyedPlace) (from last : ℕ) (found : Option KeyedPlace) (m : ℕ)
    → FirstOf test places from last found
    → lists m places ≡ true → from ≤ m → m ≤ last → test m ≡ true → NoLater found m
no_later test places from last None m first listed later within on =
    let never : true ≡ false = sym on ∙ first m listed later within in cc
no_later test places from last (Some p) m first listed later within on = elim (cases_order m p.number) [
  | inl same ↦ omega arith
  | inr apart ↦ elim apart [
    | inl below ↦ let never : true ≡ false = sym on ∙ first.1 m listed later below in cc
    | inr above ↦ omega arith
  ]
]

-- ---- messages

is_ready_of : (f : Option Fate) → passes is_ready_fate f ≡ true → f ≡ Some Ready
is_ready_of None on = let never : false ≡ true = on in cc
is_ready_of (Some Ready) on = refl
is_ready_of (Some (Out x i a)) on = let never : false ≡ true = on in cc

-- what is open
record IsOpen (kept : List Kept) (name : List ℕ) (n : ℕ) : Type 0 where
  message : Kept
  there : kept_at n kept ≡ Some message
  ready : message.fate ≡ Some Ready
  for_it : message.sent.destination ≡ name

what_opens : (kept : List Kept) (name : List ℕ) (n : ℕ) → opens kept name n ≡ true → IsOpen kept name n
what_opens kept name n on = by_kept (kept_at n kept) refl on
  where
    by_kept : (o : Option Kept) → kept_at n kept ≡ o → is_open name o ≡ true → IsOpen kept name n
    by_kept None there on2 = let never : false ≡ true = on2 in cc
    by_kept (Some k) there on2 =
        let parts = and_parts (passes is_ready_fate k.fate) (bytes_eq k.sent.destination name) on2 in
        record {
          message = k;
          there = there;
          ready = is_ready_of k.fate parts.0;
          for_it = same_texts k.sent.destination name parts.1;
        }

it_opens : (kept : List Kept) (name : List ℕ) (n : ℕ) (k : Kept) → kept_at n kept ≡ Some k → k.fate ≡ Some Ready
    → k.sent.destination ≡ name → opens kept name n ≡ true
it_opens kept name n k there ready for_it =
    let fate : passes is_ready_fate k.fate ≡ true = rw ready refl in
    let dest : bytes_eq k.sent.destination name ≡ true = rw for_it (itself name) in
    rw there (and_from (passes is_ready_fate k.fate) (bytes_eq k.sent.destination name) fate dest)

module _ (h : Holding) (is : IsSound h) (name : List ℕ) (q : List ℕ → Option Queue) (found : Option KeyedPlace)
    (r : SeeksReady h.kept h.last name h.queues q found) where
  -- what is ready there is no earlier than what was found
  pub ready_later : (n : ℕ) (k : Kept) → kept_at n h.kept ≡ Some k → k.fate ≡ Some Ready → k.sent.destination ≡ name
      → NoLater found n
  ready_later n k there ready for_it =
      let listed : lists n (queue_of h.queues name).numbers ≡ true =
      ap (λ d. lists n (queue_of h.queues d).numbers) (sym for_it) ∙ is.placed n k there in
      let ahead : (queue_of h.queues k.sent.destination).ready_from ≤ n = is.ahead n k there ready in
      let ahead2 : (queue_of h.queues name).ready_from ≤ n = rw for_it at ahead in
      no_later (opens h.kept name) (queue_of h.queues name).numbers (queue_of h.queues name).ready_from h.last found n
      r.first listed
      ahead2 (is.last n k there) (it_opens h.kept name n k there ready for_it)

  ready_ahead : AreAhead h.kept q
  ready_ahead n k there ready = elim (cases_Bool (bytes_eq k.sent.destination name)) [
    | inl on ↦
        let for_it : k.sent.destination ≡ name = same_texts k.sent.destination name on in
        rw for_it (by_found found r.from (ready_later n k there ready for_it))
    | inr off ↦
        let other : k.sent.destination ≡ name → ⊥ = λ same. (let never : true ≡ false =
        sym ((bytes_eq-Decides k.sent.destination name).1 same) ∙ off in cc) in
        rw (r.others k.sent.destination other) (is.ahead n k there ready)
  ]
    where
      by_found : (o : Option KeyedPlace) → IfSome o (λ p. (queue_of q name).ready_from ≤ p.number) → NoLater o n
          → (queue_of q name).ready_from ≤ n
      by_found None from never = absurd never
      by_found (Some p) from later = omega (arith, from, later)

  ready_moves : LooksElsewhere h (record h { queues = q })
  ready_moves = record {
    kept = refl;
    subscribers = refl;
    sessions = refl;
    last = refl;
    given = refl;
    numbers = r.numbers;
    listeners = r.subscribers;
    count = r.count;
    ahead = ready_ahead;
    takers = λ a s there may. rw (r.takers s.subscription.destination) (is.takers a s there may);
    awake = is.awake;
  }

  pub sought_ready : IsSound (record h { queues = q })
  sought_ready = moved h (record h { queues = q }) is ready_moves

-- ---- subscribers

record IsFree (subscribers : List Subscriber) (given : ℕ) (name : List ℕ) (a : ℕ) : Type 0 where
  subscriber : Subscriber
  sits : subscriber_at a subscribers ≡ Some subscriber
  listens : subscriber.subscription.destination ≡ name
  may : may_have given subscriber ≡ true

who_takes : (subscribers : List Subscriber) (given : ℕ) (name : List ℕ) (a : ℕ)
    → takes_more subscribers given name a ≡ true
    → IsFree subscribers given name a
who_takes subscribers given name a on = by_subscriber (subscriber_at a subscribers) refl on
  where
    by_subscriber : (o : Option Subscriber) → subscriber_at a subscribers ≡ o → is_free given name o ≡ true
        → IsFree subscribers given name a
    by_subscriber None there on2 = let never : false ≡ true = on2 in cc
    by_subscriber (Some s) there on2 =
        let parts = and_parts (bytes_eq s.subscription.destination name) (may_have given s) on2 in
        record {
          subscriber = s;
          sits = there;
          listens = same_texts s.subscription.destination name parts.0;
          may = parts.1;
        }

it_takes : (subscribers : List Subscriber) (given : ℕ) (name : List ℕ) (a : ℕ) (s : Subscriber)
    → subscriber_at a subscribers ≡ Some s
    → s.subscription.destination ≡ name → may_have given s ≡ true → takes_more subscribers given name a ≡ true
it_takes subscribers given name a s there listens may =
    let dest : bytes_eq s.subscription.destination name ≡ true = rw listens (itself name) in
    rw there (and_from (bytes_eq s.subscription.destination name) (may_have given s) dest may)

-- what holds of all subscribers holds of one
all_at : (P : Subscriber → Type 0) (a : ℕ) (ss : List Subscriber) (s : Subscriber) → All P ss
    → subscriber_at a ss ≡ Some s → P s
all_at P a [] s all found = let never : None ≡ Some s = found in cc
all_at P a (x ∷ ss) s all found = elim (cases_Bool (x.age == a)) [
  | inl on ↦ let same : Some x ≡ Some s = rw on at found in let e : x ≡ s = cc in rw (← e) (All-head P x ss all)
  | inr off ↦ all_at P a ss s (All-tail P x ss all) (rw off at found)
]

module _ (h : Holding) (is : IsSound h) (name : List ℕ) (q : List ℕ → Option Queue) (found : Option KeyedPlace)
    (r : SeeksTaker h.subscribers h.given name h.queues q found) where
  pub taker_later : (a : ℕ) (s : Subscriber) → subscriber_at a h.subscribers ≡ Some s
      → s.subscription.destination ≡ name
      → may_have h.given s ≡ true → NoLater found a
  taker_later a s there listens may =
      let listed : lists a (queue_of h.queues name).subscribers ≡ true =
      ap (λ d. lists a (queue_of h.queues d).subscribers) (sym listens) ∙ is.listening a s there in
      let ahead : (queue_of h.queues s.subscription.destination).taker_from ≤ a = is.takers a s there may in
      let ahead2 : (queue_of h.queues name).taker_from ≤ a = rw listens at ahead in
      let age : s.age ≡ a = at_number (λ s. s.age) a h.subscribers s there in
      let young : s.age < r.last = all_at (λ s. s.age < r.last) a h.subscribers s r.young there in
      no_later (takes_more h.subscribers h.given name) (queue_of h.queues name).subscribers
      (queue_of h.queues name).taker_from r.last
      found a r.first listed ahead2 (omega (arith, age, young)) (it_takes h.subscribers h.given name a s there listens
      may)

  taker_ahead : AreTakers h.given h.subscribers q
  taker_ahead a s there may = elim (cases_Bool (bytes_eq s.subscription.destination name)) [
    | inl on ↦
        let listens : s.subscription.destination ≡ name = same_texts s.subscription.destination name on in
        rw listens (by_found found r.from (taker_later a s there listens may))
    | inr off ↦
        let other : s.subscription.destination ≡ name → ⊥ = λ same. (let never : true ≡ false =
        sym ((bytes_eq-Decides s.subscription.destination name).1 same) ∙ off in cc) in
        rw (r.others s.subscription.destination other) (is.takers a s there may)
  ]
    where
      by_found : (o : Option KeyedPlace) → IfSome o (λ p. (queue_of q name).taker_from ≤ p.number) → NoLater o a
          → (queue_of q name).taker_from ≤ a
      by_found None from never = absurd never
      by_found (Some p) from later = omega (arith, from, later)

  pub sought_taker : IsSound (record h { queues = q })
  sought_taker = moved h (record h { queues = q }) is (record {
    kept = refl;
    subscribers = refl;
    sessions = refl;
    last = refl;
    given = refl;
    numbers = r.numbers;
    listeners = r.listeners;
    count = r.count;
    ahead = λ n k there ready. rw (r.ready k.sent.destination) (is.ahead n k there ready);
    takers = taker_ahead;
    awake = is.awake;
  })

-- ---- both

-- the same parts, with other queues
rests_with : (h : Holding) (q : List ℕ → Option Queue) → IsSound (record h { queues = q })
    → Rests h (record h { queues = q })
rests_with h q sound = record { sound = sound; kept = refl; subscribers = refl; last = refl; given = refl }

module _ (h : Holding) (is : IsSound h) (name : List ℕ) (q : List ℕ → Option Queue) where
  -- nothing is ready there
  pub looked_none : SeeksReady h.kept h.last name h.queues q None → Looked h name (record h { queues = q }) None
  looked_none r = record {
    rests = rests_with h q (sought_ready h is name q None r);
    can = tt;
    covers = λ n due. absurd (ready_later h is name q None r n due.message due.there due.ready due.for_it);
  }

  module _ (m : KeyedPlace) (one : SeeksReady h.kept h.last name h.queues q (Some m)) (r : List ℕ → Option Queue) where
    -- one is, and none takes it
    looked_untaken : SeeksTaker h.subscribers h.given name q r None → Looked h name (record h { queues = r }) None
    looked_untaken two =
        let mid : IsSound (record h { queues = q }) = sought_ready h is name q (Some m) one in
        record {
          rests = rests_with h r (sought_taker (record h { queues = q }) mid name r None two);
          can = tt;
          covers = λ n due. absurd (taker_later (record h { queues = q }) mid name r None two due.age due.subscriber
              due.sits
              (same_texts due.subscriber.subscription.destination due.message.sent.destination due.same ∙ due.for_it)
              due.may);
        }

    -- one is, and one takes it
    looked_some : (a : KeyedPlace) → SeeksTaker h.subscribers h.given name q r (Some a)
        → Looked h name (record h { queues = r }) (Some (record { message = m; taker = a }))
    looked_some a two =
        let mid : IsSound (record h { queues = q }) = sought_ready h is name q (Some m) one in
        let open_one : IsOpen h.kept name m.number = what_opens h.kept name m.number one.first.0 in
        let free_one : IsFree h.subscribers h.given name a.number =
        who_takes h.subscribers h.given name a.number two.first.0 in
        record {
          rests = rests_with h r (sought_taker (record h { queues = q }) mid name r (Some a) two);
          can = record {
            message = open_one.message;
            there = open_one.there;
            ready = open_one.ready;
            subscriber = free_one.subscriber;
            sits = free_one.sits;
            same = rw (free_one.listens, open_one.for_it) (itself name);
            may = free_one.may;
            oldest = λ b t there same may. taker_later (record h { queues = q }) mid name r (Some a) two b t there
                (same_texts t.subscription.destination open_one.message.sent.destination same ∙ open_one.for_it) may;
          };
          covers = λ n due. le-leb m.number n (ready_later h is name q (Some m) one n due.message due.there due.ready
              due.for_it);
        }

    -- one or the other
    pub looked_with : (o : Option KeyedPlace) → SeeksTaker h.subscribers h.given name q r o
        → Looked h name (record h { queues = r }) (pick_of m o)
    looked_with None two = looked_untaken two
    looked_with (Some a) two = looked_some a two
