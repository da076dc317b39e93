-- What the parts of a book agree on, together.
use Rattle.std.specs.Prelude.{◌≡◌, ◌≤◌, ◌<◌, ◌⊎◌, ℕ, ◌+◌, Bool, true, false, not}
use Rattle.std.specs.Prelude.{◌==◌, List, [], ◌∷◌, ◌++◌, map, filter, Option, Some}
use Rattle.broker_book.specs.declared.parts.Sent.{Sent}
use Rattle.std.specs.List.{list_any}
use Rattle.std.specs.Str.{bytes_eq}
use Rattle.broker_book.specs.declared.parts.Accepted.{Accepted}
use Rattle.broker_book.specs.Books.{Book, Fate, Ready, Out, is_for, is_named, out_to}
use Rattle.broker_index.specs.Index.{Kept, Subscriber, Queue, with_fate}
use Rattle.broker_index.specs.declared.places.KeyedPlace.{KeyedPlace}
use Rattle.broker_queues.specs.Parts.Facts.{ArePlaced, AreCounted, AreNoted, AreCredited, IsPast}
use Rattle.broker_queues.specs.Parts.Facts.{AreListening, AreOwned, AreAhead, AreTakers, AreAwake, AreDistinct}
use Rattle.broker_queues.specs.Parts.Facts.{rise, kept_at, subscriber_at, session_at, destination_at, lists}
use Rattle.broker_queues.specs.Parts.Facts.{queue_of, message_of, holds_number, living_of, subscriptions_of, may_have}
use Rattle.broker_queues.specs.Parts.Fates.{recounted, weight, fated, passes}

-- the messages, gone ones too; the subscribers; the queue of each destination; the subscribers of each session; the
-- destinations where something may be due; the last numbers that were given to a message and to a delivery
pub record Holding : Type 0 where
  pub kept : List Kept
  pub subscribers : List Subscriber
  pub queues : List ℕ → Option Queue
  pub sessions : ℕ → List KeyedPlace
  pub awake : List ℕ → Bool
  pub last : ℕ
  pub given : ℕ

-- the book that they stand for
abbrev pub book_of : Holding → List Accepted → Book
book_of h accepted = record {
  living = living_of h.kept;
  last = h.last;
  given = h.given;
  subscriptions = subscriptions_of h.subscribers;
  accepted = accepted;
}

-- the parts agree
pub record IsSound (h : Holding) : Type 0 where
  pub placed : ArePlaced h.kept h.queues
  pub counted : AreCounted h.kept h.queues
  pub noted : AreNoted h.kept h.subscribers
  pub credited : AreCredited h.kept h.subscribers
  pub listening : AreListening h.subscribers h.queues
  pub owned : AreOwned h.subscribers h.sessions
  pub ahead : AreAhead h.kept h.queues
  pub takers : AreTakers h.given h.subscribers h.queues
  pub awake : AreAwake h.given h.kept h.subscribers h.awake
  pub distinct : AreDistinct h.given h.kept
  pub numbers : rise (λ k. k.number) 0 h.kept ≡ true
  pub last : (n : ℕ) (k : Kept) → kept_at n h.kept ≡ Some k → n ≤ h.last
  pub listed_last : (d : List ℕ) (n : ℕ) → lists n (queue_of h.queues d).numbers ≡ true → n ≤ h.last
  pub ages : rise (λ s. s.age) 0 h.subscribers ≡ true
  pub apart : (a b : ℕ) (s t : Subscriber) → subscriber_at a h.subscribers ≡ Some s
      → subscriber_at b h.subscribers ≡ Some t
      → is_named s.subscription.session s.subscription.id t.subscription ≡ true → a ≡ b
  pub listeners : (d : List ℕ) (a : ℕ) → lists a (queue_of h.queues d).subscribers ≡ true
      → destination_at a h.subscribers ≡ Some d
  pub owners : (x a : ℕ) → lists a (h.sessions x) ≡ true → session_at a h.subscribers ≡ Some x
  pub owned_rise : (x : ℕ) → rise (λ p. p.number) 0 (h.sessions x) ≡ true

-- the same messages and subscribers at each destination, and neither place from which it looks for one is later
pub record Lowers (old new : List ℕ → Option Queue) : Type 0 where
  pub numbers : (d : List ℕ) → (queue_of new d).numbers ≡ (queue_of old d).numbers
  pub subscribers : (d : List ℕ) → (queue_of new d).subscribers ≡ (queue_of old d).subscribers
  pub ready : (d : List ℕ) → (queue_of new d).ready_from ≤ (queue_of old d).ready_from
  pub takers : (d : List ℕ) → (queue_of new d).taker_from ≤ (queue_of old d).taker_from

-- what was awake is
abbrev pub Wakes : (List ℕ → Bool) → (List ℕ → Bool) → Type 0
Wakes old new = (d : List ℕ) → old d ≡ true → new d ≡ true

-- A kept message gets another fate.
pub record Changes (old : Holding) (n : ℕ) (k : Kept) (fate : Option Fate) (new : Holding) : Type 0 where
  pub kept : new.kept ≡ map (with_fate n fate) old.kept
  pub subscribers : new.subscribers ≡ map (recounted k.fate fate) old.subscribers
  pub lowers : Lowers old.queues new.queues
  pub count : (d : List ℕ) → (queue_of new.queues d).count + weight (is_for d) (message_of k)
      ≡ (queue_of old.queues d).count + weight (is_for d) (message_of (fated fate k))
  pub sessions : new.sessions ≡ old.sessions
  pub wakes : Wakes old.awake new.awake
  pub last : new.last ≡ old.last
  pub given : old.given ≤ new.given
  pub ready_from : fate ≡ Some Ready → (queue_of new.queues k.sent.destination).ready_from ≤ n
  pub ready_awake : fate ≡ Some Ready → new.awake k.sent.destination ≡ true
  pub free_from : (a : ℕ) (s : Subscriber) → subscriber_at a old.subscribers ≡ Some s
      → passes (out_to s.subscription.session s.subscription.id) k.fate ≡ true
      → (queue_of new.queues s.subscription.destination).taker_from ≤ a
  pub free_awake : (a : ℕ) (s : Subscriber) → subscriber_at a old.subscribers ≡ Some s
      → passes (out_to s.subscription.session s.subscription.id) k.fate ≡ true
      → (new.awake s.subscription.destination ≡ true) ⊎ IsPast (queue_of new.queues s.subscription.destination)
  pub noted : (x : ℕ) (i : List ℕ) (a : ℕ) → fate ≡ Some (Out x i a)
      → list_any (holds_number x i n) old.subscribers ≡ true
  pub distinct : AreDistinct new.given new.kept

-- the same messages counted at each destination
abbrev pub SameCounts : (List ℕ → Option Queue) → (List ℕ → Option Queue) → Type 0
SameCounts old new = (d : List ℕ) → (queue_of new d).count ≡ (queue_of old d).count

-- a new message of these contents, ready
abbrev pub new_kept : ℕ → Sent → Kept
new_kept n sent = record { number = n; sent = sent; fate = Some Ready }

-- A message is put in, ready.
pub record Puts (old : Holding) (sent : Sent) (new : Holding) : Type 0 where
  pub kept : new.kept ≡ old.kept ++ new_kept (old.last + 1) sent ∷ []
  pub subscribers : new.subscribers ≡ old.subscribers
  pub sessions : new.sessions ≡ old.sessions
  pub last : new.last ≡ old.last + 1
  pub given : new.given ≡ old.given
  pub numbers : (d : List ℕ) (m : ℕ) → lists m (queue_of old.queues d).numbers ≡ true
      → lists m (queue_of new.queues d).numbers ≡ true
  pub added : lists (old.last + 1) (queue_of new.queues sent.destination).numbers ≡ true
  pub listed : (d : List ℕ) (m : ℕ) → lists m (queue_of new.queues d).numbers ≡ true → m ≤ old.last + 1
  pub count : (d : List ℕ) → (queue_of new.queues d).count
      ≡ (queue_of old.queues d).count + weight (is_for d) (message_of (new_kept (old.last + 1) sent))
  pub listeners : (d : List ℕ) → (queue_of new.queues d).subscribers ≡ (queue_of old.queues d).subscribers
  pub ready : (d : List ℕ) → (queue_of new.queues d).ready_from ≤ (queue_of old.queues d).ready_from
  pub ready_from : (queue_of new.queues sent.destination).ready_from ≤ old.last + 1
  pub takers : (d : List ℕ) → (queue_of new.queues d).taker_from ≤ (queue_of old.queues d).taker_from
  pub wakes : Wakes old.awake new.awake
  pub awake : new.awake sent.destination ≡ true

-- A message that is gone is taken out.
pub record Purges (old : Holding) (n : ℕ) (new : Holding) : Type 0 where
  pub kept : new.kept ≡ filter (λ k. not (k.number == n)) old.kept
  pub subscribers : new.subscribers ≡ old.subscribers
  pub sessions : new.sessions ≡ old.sessions
  pub last : new.last ≡ old.last
  pub given : new.given ≡ old.given
  pub numbers : (d : List ℕ) (m : ℕ) → (m ≡ n → ⊥) → lists m (queue_of old.queues d).numbers ≡ true
      → lists m (queue_of new.queues d).numbers ≡ true
  pub listed : (d : List ℕ) (m : ℕ) → lists m (queue_of new.queues d).numbers ≡ true
      → lists m (queue_of old.queues d).numbers ≡ true
  pub count : SameCounts old.queues new.queues
  pub listeners : (d : List ℕ) → (queue_of new.queues d).subscribers ≡ (queue_of old.queues d).subscribers
  pub ready : (d : List ℕ) → (queue_of new.queues d).ready_from ≤ (queue_of old.queues d).ready_from
  pub takers : (d : List ℕ) → (queue_of new.queues d).taker_from ≤ (queue_of old.queues d).taker_from
  pub wakes : Wakes old.awake new.awake

-- The deliveries that subscribers note change, but for those that are out.
pub record Renotes (old : Holding) (change : Subscriber → Subscriber) (new : Holding) : Type 0 where
  pub changed : new ≡ record old { subscribers = map change old.subscribers }
  pub age : (s : Subscriber) → (change s).age ≡ s.age
  pub subscription : (s : Subscriber) → (change s).subscription ≡ s.subscription
  pub count : (s : Subscriber) → (change s).count ≡ s.count
  pub noted : (n : ℕ) (k : Kept) (x : ℕ) (i : List ℕ) (a : ℕ) (s : Subscriber) → kept_at n old.kept ≡ Some k
      → k.fate ≡ Some (Out x i a) → subscriber_at s.age old.subscribers ≡ Some s → holds_number x i n s ≡ true
      → holds_number x i n (change s) ≡ true

-- Where queues look for ready messages and for takers changes, and which are awake.
pub record LooksElsewhere (old new : Holding) : Type 0 where
  pub kept : new.kept ≡ old.kept
  pub subscribers : new.subscribers ≡ old.subscribers
  pub sessions : new.sessions ≡ old.sessions
  pub last : new.last ≡ old.last
  pub given : new.given ≡ old.given
  pub numbers : (d : List ℕ) → (queue_of new.queues d).numbers ≡ (queue_of old.queues d).numbers
  pub listeners : (d : List ℕ) → (queue_of new.queues d).subscribers ≡ (queue_of old.queues d).subscribers
  pub count : SameCounts old.queues new.queues
  pub ahead : AreAhead old.kept new.queues
  pub takers : AreTakers old.given old.subscribers new.queues
  pub awake : AreAwake old.given old.kept old.subscribers new.awake

-- A subscriber comes, the youngest; none had its name.
pub record Subscribes (old : Holding) (s : Subscriber) (new : Holding) : Type 0 where
  pub subscribers : new.subscribers ≡ old.subscribers ++ s ∷ []
  pub youngest : (a : ℕ) (t : Subscriber) → subscriber_at a old.subscribers ≡ Some t → a < s.age
  pub none : s.count ≡ 0
  pub fresh : (a : ℕ) (t : Subscriber) → subscriber_at a old.subscribers ≡ Some t
      → is_named s.subscription.session s.subscription.id t.subscription ≡ false
  pub kept : new.kept ≡ old.kept
  pub last : new.last ≡ old.last
  pub given : new.given ≡ old.given
  pub numbers : (d : List ℕ) → (queue_of new.queues d).numbers ≡ (queue_of old.queues d).numbers
  pub count : SameCounts old.queues new.queues
  pub ready : (d : List ℕ) → (queue_of new.queues d).ready_from ≤ (queue_of old.queues d).ready_from
  pub takers : (d : List ℕ) → (queue_of new.queues d).taker_from ≤ (queue_of old.queues d).taker_from
  pub taker_from : (queue_of new.queues s.subscription.destination).taker_from ≤ s.age
  pub listening : (d : List ℕ) (a : ℕ) → lists a (queue_of old.queues d).subscribers ≡ true
      → lists a (queue_of new.queues d).subscribers ≡ true
  pub listens : lists s.age (queue_of new.queues s.subscription.destination).subscribers ≡ true
  pub listeners : (d : List ℕ) (a : ℕ) → lists a (queue_of new.queues d).subscribers ≡ true
      → ((a ≡ s.age) × (d ≡ s.subscription.destination)) ⊎ (lists a (queue_of old.queues d).subscribers ≡ true)
  pub owned : (x a : ℕ) → lists a (old.sessions x) ≡ true → lists a (new.sessions x) ≡ true
  pub owns : lists s.age (new.sessions s.subscription.session) ≡ true
  pub owners : (x a : ℕ) → lists a (new.sessions x) ≡ true
      → ((a ≡ s.age) × (x ≡ s.subscription.session)) ⊎ (lists a (old.sessions x) ≡ true)
  pub owned_rise : (x : ℕ) → rise (λ p. p.number) 0 (new.sessions x) ≡ true
  pub wakes : Wakes old.awake new.awake
  pub awake : new.awake s.subscription.destination ≡ true

-- A subscriber goes, to whom no message is out.
pub record Leaves (old : Holding) (age : ℕ) (s : Subscriber) (new : Holding) : Type 0 where
  pub found : subscriber_at age old.subscribers ≡ Some s
  pub none_out : (n : ℕ) (k : Kept) → kept_at n old.kept ≡ Some k
      → passes (out_to s.subscription.session s.subscription.id) k.fate ≡ false
  pub subscribers : new.subscribers ≡ filter (λ s. not (s.age == age)) old.subscribers
  pub kept : new.kept ≡ old.kept
  pub last : new.last ≡ old.last
  pub given : new.given ≡ old.given
  pub numbers : (d : List ℕ) → (queue_of new.queues d).numbers ≡ (queue_of old.queues d).numbers
  pub count : SameCounts old.queues new.queues
  pub ready : (d : List ℕ) → (queue_of new.queues d).ready_from ≤ (queue_of old.queues d).ready_from
  pub takers : (d : List ℕ) → (queue_of new.queues d).taker_from ≤ (queue_of old.queues d).taker_from
  pub listening : (d : List ℕ) (a : ℕ) → (a ≡ age → ⊥) → lists a (queue_of old.queues d).subscribers ≡ true
      → lists a (queue_of new.queues d).subscribers ≡ true
  pub listeners : (d : List ℕ) (a : ℕ) → lists a (queue_of new.queues d).subscribers ≡ true
      → (a ≡ age → ⊥) × (lists a (queue_of old.queues d).subscribers ≡ true)
  pub owned : (x a : ℕ) → (a ≡ age → ⊥) → lists a (old.sessions x) ≡ true → lists a (new.sessions x) ≡ true
  pub owners : (x a : ℕ) → lists a (new.sessions x) ≡ true → (a ≡ age → ⊥) × (lists a (old.sessions x) ≡ true)
  pub owned_rise : (x : ℕ) → rise (λ p. p.number) 0 (new.sessions x) ≡ true
  pub wakes : Wakes old.awake new.awake

-- A message that is ready can go out to a subscriber: the first one that can go out to any, to the oldest that may take
-- it.
pub record Picks (h : Holding) (n : ℕ) (k : Kept) (a : ℕ) (s : Subscriber) : Type 0 where
  pub there : kept_at n h.kept ≡ Some k
  pub ready : k.fate ≡ Some Ready
  pub sits : subscriber_at a h.subscribers ≡ Some s
  pub same : bytes_eq s.subscription.destination k.sent.destination ≡ true
  pub may : may_have h.given s ≡ true
  pub oldest : (b : ℕ) (t : Subscriber) → subscriber_at b h.subscribers ≡ Some t
      → bytes_eq t.subscription.destination k.sent.destination ≡ true → may_have h.given t ≡ true → a ≤ b
  pub first : (m : ℕ) (l : Kept) (b : ℕ) (t : Subscriber) → kept_at m h.kept ≡ Some l → l.fate ≡ Some Ready
      → subscriber_at b h.subscribers ≡ Some t → bytes_eq t.subscription.destination l.sent.destination ≡ true
      → may_have h.given t ≡ true
      → n ≤ m
