-- What the containers of a broker's queues hold.
use Rattle.std.specs.Prelude.{◌≡◌, ◌≢◌, ◌+◌, ◌-◌, ℕ, Bool, ◌==◌, ◌&&◌, nat_le, not, if◌then◌else◌, List, [], ◌∷◌, ◌++◌, length}
use Rattle.std.specs.Prelude.{filter, Option}
use Rattle.std.specs.Prelude.{Some, None}
use Rattle.std.specs.Option.{unwrap_or}
use Rattle.std.specs.Map.{lookup}
use Rattle.std.specs.Str.{bytes_eq}
use Rattle.broker_book.specs.Books.{Fate}
use Rattle.broker_book.specs.declared.parts.Sent.{Sent}
use Rattle.broker_book.specs.declared.parts.Subscription.{Subscription}
use Rattle.broker_index.specs.declared.places.Entry.{Entry}
use Rattle.broker_index.specs.declared.places.KeyedPlace.{KeyedPlace}

-- ---- messages

-- a message as it is kept; without a fate it is gone, and only waits to be taken out
pub record Kept : Type 0 where
  pub number : ℕ
  pub sent : Sent
  pub fate : Option Fate

-- whether it is the message of this number
abbrev pub has_number : ℕ → Kept → Bool
has_number number k = k.number == number

-- a message with this fate, where it has this number
abbrev pub with_fate : ℕ → Option Fate → Kept → Kept
with_fate number fate k = if k.number == number then record k { fate = fate } else k

-- ---- places

-- whether a place is the one of this number
abbrev pub is_place_of : ℕ → KeyedPlace → Bool
is_place_of number p = p.number == number

-- whether a place is at this number or behind it
abbrev pub is_from : ℕ → KeyedPlace → Bool
is_from number p = nat_le number p.number

-- the places but the one of this number
abbrev pub without : ℕ → List KeyedPlace → List KeyedPlace
without number ps = filter (λ p. not (p.number == number)) ps

-- ---- subscribers

-- a subscription, how many deliveries to it are unanswered, and the deliveries that were made to it: those that are
-- unanswered, and perhaps others
pub record Subscriber : Type 0 where
  pub age : ℕ
  pub subscription : Subscription
  pub count : ℕ
  pub entries : List Entry

-- whether it is the subscriber of this age
abbrev pub has_age : ℕ → Subscriber → Bool
has_age age s = s.age == age

-- a subscriber with this count, where it has this age
abbrev pub with_count : ℕ → ℕ → Subscriber → Subscriber
with_count age count s = if s.age == age then record s { count = count } else s

-- a subscriber with one delivery more, where it has this age
abbrev pub with_entry : ℕ → Entry → Subscriber → Subscriber
with_entry age entry s = if s.age == age then record s { entries = s.entries ++ entry ∷ [] } else s

-- the deliveries but those of a message
abbrev pub entries_without : ℕ → List Entry → List Entry
entries_without number es = filter (λ e. not (e.number == number)) es

-- a subscriber without the deliveries of a message, where it has this age
abbrev pub without_entries : ℕ → ℕ → Subscriber → Subscriber
without_entries age number s = if s.age == age then record s { entries = entries_without number s.entries } else s

-- ---- queues

-- a destination: the messages that go to it, how many of them aren't gone, a number that no ready one is before; and
-- the subscribers that listen on it, with an age that none with credit is before
pub record Queue : Type 0 where
  pub numbers : List KeyedPlace
  pub count : ℕ
  pub ready_from : ℕ
  pub subscribers : List KeyedPlace
  pub taker_from : ℕ

-- nothing goes to it, and none listens
abbrev pub empty_queue : Queue
empty_queue = record { numbers = []; count = 0; ready_from = 0; subscribers = []; taker_from = 0 }

-- the queue of a destination; an empty one, where there was none
abbrev pub opened : Option Queue → Queue
opened None = empty_queue
opened (Some q) = q

-- a queue with one message more, at the end
abbrev pub with_number : KeyedPlace → Queue → Queue
with_number place q = record q { numbers = q.numbers ++ place ∷ [] }

-- a queue without a message
abbrev pub without_number : ℕ → Queue → Queue
without_number number q = record q { numbers = without number q.numbers }

-- a queue with this count
abbrev pub counting : ℕ → Queue → Queue
counting count q = record q { count = count }

-- a queue with one message more, at the end, which is counted
abbrev pub with_counted : KeyedPlace → Queue → Queue
with_counted place q = record q { numbers = q.numbers ++ place ∷ []; count = q.count + 1 }

-- a queue that counts one message fewer, if it counts any
abbrev pub counting_fewer : Queue → Queue
counting_fewer q = record q { count = q.count - 1 }

-- a queue that is ready from this number on
abbrev pub ready_from : ℕ → Queue → Queue
ready_from number q = record q { ready_from = number }

-- a queue with one subscriber more, the youngest
abbrev pub with_subscriber : KeyedPlace → Queue → Queue
with_subscriber place q = record q { subscribers = q.subscribers ++ place ∷ [] }

-- a queue without a subscriber
abbrev pub without_subscriber : ℕ → Queue → Queue
without_subscriber age q = record q { subscribers = without age q.subscribers }

-- a queue with takers from this age on
abbrev pub taken_from : ℕ → Queue → Queue
taken_from age q = record q { taker_from = age }

-- whether nothing goes there and none listens
abbrev pub is_idle : Queue → Bool
is_idle q = (length q.numbers == 0) && (length q.subscribers == 0)

-- the queue, unless it is idle
abbrev pub unless_idle : Queue → Option Queue
unless_idle q = if is_idle q then None else Some q

-- the queue without a message, unless it is idle then
abbrev pub taken_number : ℕ → Queue → Option Queue
taken_number number q = unless_idle (without_number number q)

-- a queue without a message, which it counts no more
abbrev pub without_counted : ℕ → Queue → Queue
without_counted number q = record q { numbers = without number q.numbers; count = q.count - 1 }

-- the same, unless it is idle then
abbrev pub taken_counted : ℕ → Queue → Option Queue
taken_counted number q = unless_idle (without_counted number q)

-- ---- values by key

-- at one key the new value is this, and at each other one it is as it was
pub record Sets {K X : Type 0} (old new : K → X) (k : K) (x : X) : Type 0 where
  pub at : new k ≡ x
  pub others : (other : K) → other ≢ k → new other ≡ old other

-- the queue of a name, among names with their queues
abbrev pub queue_at : List (List ℕ × Queue) → List ℕ → Option Queue
queue_at qs name = lookup (bytes_eq name) qs

-- the places of a session, among sessions with theirs
abbrev pub places_at : List (ℕ × List KeyedPlace) → ℕ → List KeyedPlace
places_at ss session = unwrap_or (lookup (λ s. session == s) ss) []
