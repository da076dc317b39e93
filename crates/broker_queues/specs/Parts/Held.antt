-- What the parts of a book hold.
use Rattle.std.specs.Prelude.{◌≡◌, ◌<◌, ◌+◌, ℕ, Bool, true, List, [], length, map, take, Option, Some, None, Result}
use Rattle.std.specs.Prelude.{if◌then◌else◌}
use Rattle.broker_book.specs.declared.fault.QueueFault.{QueueFault}
use Rattle.broker_book.specs.declared.parts.Accepted.{Accepted}
use Rattle.broker_book.specs.Steps.{ack_of, nack_of, Exactly}
use Rattle.broker_book.specs.Books.{Book, Fate, out_to}
use Rattle.broker_index.specs.Index.{Kept, Subscriber, queue_at, places_at}
use Rattle.broker_index.specs.declared.places.Entry.{Entry}
use Rattle.broker_queues.specs.declared.parts.Parts.{Parts}
use Rattle.broker_queues.specs.Parts.Fates.{passes, back, counts_in, turn_among}
use Rattle.broker_queues.specs.Parts.Queues.{awake_in}
use Rattle.broker_queues.specs.Parts.Facts.{kept_at, subscriber_at, subscriptions_of, queue_of}
use Rattle.broker_queues.specs.Parts.Whole.{Holding, IsSound, Changes, book_of}

-- what they hold
abbrev pub holding_of : Parts → Holding
holding_of p = record {
  kept = p.messages;
  subscribers = p.subscribers;
  queues = queue_at p.destinations;
  sessions = places_at p.sessions;
  awake = awake_in p.active.all p.active.names.items;
  last = p.last;
  given = p.given;
}

-- a delivery of a message to a subscriber is taken back
abbrev pub TakesBack : Holding → ℕ → ℕ → Bool → Holding → Type 0
TakesBack old n age again new = (k : Kept) (s : Subscriber) → IsSound old → kept_at n old.kept ≡ Some k
    → subscriber_at age old.subscribers ≡ Some s
    → passes (out_to s.subscription.session s.subscription.id) k.fate ≡ true
    → Changes old n k (back again) new

-- A subscriber is there as it was, with another count perhaps.
pub record IsSame (s : Subscriber) (o : Option Subscriber) : Type 0 where
  pub now : Subscriber
  pub there : o ≡ Some now
  pub subscription : now.subscription ≡ s.subscription
  pub entries : now.entries ≡ s.entries

-- A subscriber's deliveries were gone through: the messages among them that pass a test turned to a fate, and nothing
-- else changed.
pub record Turns (old : Holding) (age : ℕ) (s : Subscriber) (to : Option Fate) (test : Fate
    → Bool) (es : List Entry) (new : Holding) : Type 0 where
  pub sound : IsSound new
  pub kept : new.kept ≡ map (turn_among to test es) old.kept
  pub subscriptions : subscriptions_of new.subscribers ≡ subscriptions_of old.subscribers
  pub now : Subscriber
  pub sits : subscriber_at age new.subscribers ≡ Some now
  pub subscription : now.subscription ≡ s.subscription
  pub entries : now.entries ≡ s.entries
  pub sessions : new.sessions ≡ old.sessions
  pub last : new.last ≡ old.last
  pub given : new.given ≡ old.given
  pub numbers : (d : List ℕ) → (queue_of new.queues d).numbers ≡ (queue_of old.queues d).numbers
  pub others : (b : ℕ) (u : Subscriber) → subscriber_at b old.subscribers ≡ Some u
      → IsSame u (subscriber_at b new.subscribers)

-- the deliveries of a subscriber, none where there is none
abbrev pub entries_of : Option Subscriber → List Entry
entries_of None = []
entries_of (Some s) = s.entries

-- one delivery more was gone through, whatever began
abbrev pub TurnsNext : Holding → ℕ → ℕ → Option ℕ → Bool → Holding → Type 0
TurnsNext old age index answered again new = (h : Holding) (s : Subscriber) → IsSound h → index < length s.entries
    → Turns h age s (back again) (counts_in s.subscription answered) (take index s.entries) old
    → Turns h age s (back again) (counts_in s.subscription answered) (take (index + 1) s.entries) new

-- deliveries were passed over, from one place to another, whatever began
abbrev pub TurnsPast : Holding → ℕ → ℕ → Option ℕ → ℕ → Type 0
TurnsPast now age from answered index = (h : Holding) (s : Subscriber) (again : Bool) → IsSound h
    → Turns h age s (back again) (counts_in s.subscription answered) (take from s.entries) now
    → Turns h age s (back again) (counts_in s.subscription answered) (take index s.entries) now

-- all were
abbrev pub TurnsAll : Holding → ℕ → Option ℕ → Bool → Holding → Type 0
TurnsAll old age answered again new = (s : Subscriber) → IsSound old → subscriber_at age old.subscribers ≡ Some s
    → Turns old age s (back again) (counts_in s.subscription answered) s.entries new

-- A session answered a delivery: an ACK, or a NACK where the messages are to be ready again.
abbrev pub step_of : Bool → Book → ℕ → ℕ → Result Book QueueFault
step_of again b session number = if again then nack_of b session number else ack_of b session number

-- the parts still agree, and the book took the step, or nothing has changed
abbrev pub Responds : {A : Type 0} → Holding → ℕ → ℕ → Bool → Holding → Result A QueueFault → Type 0
Responds old session number again new result = (accepted : List Accepted) → IsSound old
    → IsSound new × Exactly (step_of again (book_of old accepted) session number) (book_of old accepted)
    (book_of new accepted) result
