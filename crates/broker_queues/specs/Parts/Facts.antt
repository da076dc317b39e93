-- What the parts of a book hold, and what they must agree on.
use Rattle.std.specs.Prelude.{◌≡◌, ◌≤◌, ℕ, ◌+◌, ◌^◌, ◌-◌, Bool, true, ◌&&◌, ◌||◌}
use Rattle.std.specs.Prelude.{◌==◌, nat_lt, nat_le, List, [], ◌∷◌, map, find, count_by, filter_map}
use Rattle.std.specs.Prelude.{Option, Some, None}
use Rattle.std.specs.List.{list_any}
use Rattle.std.specs.Option.{option_map}
use Rattle.std.specs.Str.{bytes_eq}
use Rattle.base.specs.declared.limits.TheConstants.{MAX_UNANSWERED}
use Rattle.broker_book.specs.declared.parts.Sent.{Sent}
use Rattle.broker_book.specs.declared.parts.Subscription.{Subscription}
use Rattle.broker_book.specs.Books.{QueuedMessage, Fate, Ready, Out, out_to, is_for, is_named, is_auto}
use Rattle.broker_index.specs.Index.{Kept, has_number, is_place_of, Subscriber, has_age, Queue, opened}
use Rattle.broker_index.specs.declared.places.Entry.{Entry}
use Rattle.broker_index.specs.declared.places.KeyedPlace.{KeyedPlace}

-- ---- the book that the parts stand for

-- a kept message as the book has it: not at all, where it is gone
abbrev pub living_as : ℕ → Sent → Option Fate → Option QueuedMessage
living_as number sent None = None
living_as number sent (Some fate) = Some (record { number = number; sent = sent; fate = fate })

-- the same of a kept message
abbrev pub message_of : Kept → Option QueuedMessage
message_of k = living_as k.number k.sent k.fate

-- the messages that aren't gone
abbrev pub living_of : List Kept → List QueuedMessage
living_of kept = filter_map message_of kept

-- the subscriptions of the subscribers
abbrev pub subscriptions_of : List Subscriber → List Subscription
subscriptions_of subscribers = map (λ s. s.subscription) subscribers

-- ---- lookups

-- the kept message of a number
abbrev pub kept_at : ℕ → List Kept → Option Kept
kept_at number kept = find (has_number number) kept

-- the subscriber of an age
abbrev pub subscriber_at : ℕ → List Subscriber → Option Subscriber
subscriber_at age subscribers = find (has_age age) subscribers

-- the session of the subscriber of an age
abbrev pub session_at : ℕ → List Subscriber → Option ℕ
session_at age subscribers = option_map (λ s. s.subscription.session) (subscriber_at age subscribers)

-- the destination of the subscriber of an age
abbrev pub destination_at : ℕ → List Subscriber → Option (List ℕ)
destination_at age subscribers = option_map (λ s. s.subscription.destination) (subscriber_at age subscribers)

-- whether a number is among places
abbrev pub lists : ℕ → List KeyedPlace → Bool
lists number places = list_any (is_place_of number) places

-- whether a message's number is among deliveries
abbrev pub notes : ℕ → List Entry → Bool
notes number entries = list_any (λ e. e.number == number) entries

-- the queue of a destination, an empty one where there is none
abbrev pub queue_of : (List ℕ → Option Queue) → List ℕ → Queue
queue_of queues name = opened (queues name)

-- a queue lists no message from where it looks for a ready one
abbrev pub IsPast : Queue → Type 0
IsPast q = (m : ℕ) → lists m q.numbers ≡ true → q.ready_from ≤ m → ⊥

-- whether a subscriber may take one message more
abbrev pub may_have : ℕ → Subscriber → Bool
may_have given s = is_auto s.subscription.mode || (nat_lt s.count MAX_UNANSWERED && nat_lt given (2 ^ 64 - 1))

-- whether a subscriber is the session's of this name, and a delivery of this message to it is noted
abbrev pub holds_number : ℕ → List ℕ → ℕ → Subscriber → Bool
holds_number session id number s = is_named session id s.subscription && notes number s.entries

-- ---- order

-- whether the numbers of values rise, from this one on
abbrev pub rise : {X : Type 0} → (X → ℕ) → ℕ → List X → Bool
rise number low [] = true
rise number low (x ∷ xs) = nat_le low (number x) && rise number (number x + 1) xs

-- ---- what the parts agree on

-- each kept message is in the queue of its destination
abbrev pub ArePlaced : List Kept → (List ℕ → Option Queue) → Type 0
ArePlaced kept queues =
    (n : ℕ) (k : Kept) → kept_at n kept ≡ Some k → lists n (queue_of queues k.sent.destination).numbers ≡ true

-- each queue counts its living messages
abbrev pub AreCounted : List Kept → (List ℕ → Option Queue) → Type 0
AreCounted kept queues = (d : List ℕ) → (queue_of queues d).count ≡ count_by (is_for d) (living_of kept)

-- each message that is out is noted at a subscriber that has it
abbrev pub AreNoted : List Kept → List Subscriber → Type 0
AreNoted kept subscribers =
    (n : ℕ) (k : Kept) (x : ℕ) (i : List ℕ) (a : ℕ) → kept_at n kept ≡ Some k → k.fate ≡ Some (Out x i a)
    → list_any (holds_number x i n) subscribers ≡ true

-- each subscriber counts the messages that are out to it
abbrev pub AreCredited : List Kept → List Subscriber → Type 0
AreCredited kept subscribers = (a : ℕ) (s : Subscriber) → subscriber_at a subscribers ≡ Some s
    → s.count ≡ count_by (λ m. out_to s.subscription.session s.subscription.id m.fate) (living_of kept)

-- each subscriber listens at the queue of its destination
abbrev pub AreListening : List Subscriber → (List ℕ → Option Queue) → Type 0
AreListening subscribers queues = (a : ℕ) (s : Subscriber) → subscriber_at a subscribers ≡ Some s
    → lists a (queue_of queues s.subscription.destination).subscribers ≡ true

-- each subscriber is among its session's
abbrev pub AreOwned : List Subscriber → (ℕ → List KeyedPlace) → Type 0
AreOwned subscribers sessions = (a : ℕ) (s : Subscriber) → subscriber_at a subscribers ≡ Some s
    → lists a (sessions s.subscription.session) ≡ true

-- no ready message is before the place from which its queue looks for one
abbrev pub AreAhead : List Kept → (List ℕ → Option Queue) → Type 0
AreAhead kept queues = (n : ℕ) (k : Kept) → kept_at n kept ≡ Some k → k.fate ≡ Some Ready
    → (queue_of queues k.sent.destination).ready_from ≤ n

-- no subscriber with credit is before the place from which its queue looks for one
abbrev pub AreTakers : ℕ → List Subscriber → (List ℕ → Option Queue) → Type 0
AreTakers given subscribers queues =
    (a : ℕ) (s : Subscriber) → subscriber_at a subscribers ≡ Some s → may_have given s ≡ true
    → (queue_of queues s.subscription.destination).taker_from ≤ a

-- each delivery that is out has a number that was given, and no other message is out under it
abbrev pub AreDistinct : ℕ → List Kept → Type 0
AreDistinct given kept =
    (n m : ℕ) (k l : Kept) (x y : ℕ) (i j : List ℕ) (a : ℕ) → kept_at n kept ≡ Some k → kept_at m kept ≡ Some l
    → k.fate ≡ Some (Out x i a) → l.fate ≡ Some (Out y j a) → (n ≡ m) × (a ≤ given)

-- a queue with a ready message and a subscriber that may take it is awake
abbrev pub AreAwake : ℕ → List Kept → List Subscriber → (List ℕ → Bool) → Type 0
AreAwake given kept subscribers awake =
    (n : ℕ) (k : Kept) (a : ℕ) (s : Subscriber) → kept_at n kept ≡ Some k → k.fate ≡ Some Ready
    → subscriber_at a subscribers ≡ Some s → bytes_eq s.subscription.destination k.sent.destination ≡ true
    → may_have given s ≡ true
    → awake k.sent.destination ≡ true
