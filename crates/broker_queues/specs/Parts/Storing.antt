-- What becomes of the parts as messages and subscribers come and go.
use Rattle.std.specs.Prelude.{◌≡◌, ◌≤◌, ◌+◌, ◌-◌, ◌⊎◌, ℕ, Bool, true, false, not, ◌==◌, nat_lt, if◌then◌else◌}
use Rattle.std.specs.Prelude.{List, [], ◌∷◌, ◌++◌, length, filter, find}
use Rattle.std.specs.Prelude.{Option, Some, None, Result, Ok, Err}
use Rattle.std.specs.Str.{bytes_eq}
use Rattle.broker_book.specs.declared.fault.QueueFault.{QueueFault}
use Rattle.broker_book.specs.declared.fault.QueueFault.TheVariants.{Memory}
use Rattle.broker_book.specs.declared.parts.Accepted.{Accepted}
use Rattle.broker_book.specs.declared.parts.Sent.{Sent}
use Rattle.broker_book.specs.declared.parts.Subscription.{Subscription}
use Rattle.broker_book.specs.Books.{Fate, out_to, is_named}
use Rattle.broker_book.specs.Steps.{ended, put_of, released, subscribed}
use Rattle.broker_index.specs.Index.{Kept, Subscriber, Queue, Sets, empty_queue, is_idle, with_subscriber, without}
use Rattle.broker_index.specs.declared.places.Entry.{Entry}
use Rattle.broker_index.specs.declared.places.KeyedPlace.{KeyedPlace}
use Rattle.broker_queues.specs.Parts.Fates.{back, fate_of_kept, passes}
use Rattle.broker_queues.specs.Parts.Queues.{Frees}
use Rattle.broker_queues.specs.Parts.Undoing.{is_out_fate}
use Rattle.broker_queues.specs.Parts.Facts.{kept_at, subscriber_at, living_of, subscriptions_of, lists, notes, queue_of}
use Rattle.broker_queues.specs.Parts.Whole.{Changes, Holding, IsSound, Leaves, LooksElsewhere, Puts, book_of}

-- ---- the queue of one destination

-- the queue of a name becomes another, and the others stay
abbrev pub Becomes : (Queue → Queue) → (List ℕ → Option Queue) → (List ℕ → Option Queue) → List ℕ → Type 0
Becomes change old new name =
    (d : List ℕ) → queue_of new d ≡ (if bytes_eq name d then change (queue_of old d) else queue_of old d)

-- a queue with one living message more
abbrev pub adding : KeyedPlace → Queue → Queue
adding place q = record q { numbers = q.numbers ++ place ∷ []; count = q.count + 1 }

-- each queue stays, or was idle and is empty
abbrev pub Closes : (List ℕ → Option Queue) → (List ℕ → Option Queue) → Type 0
Closes old new = (d : List ℕ) → (queue_of new d ≡ queue_of old d)
    ⊎ ((is_idle (queue_of old d) ≡ true) × (queue_of new d ≡ empty_queue))

-- ---- messages come

-- the queues list one message more, and no other
abbrev pub ListsOnly : Holding → Sent → Holding → Type 0
ListsOnly old sent new = (d : List ℕ) (m : ℕ) → lists m (queue_of new.queues d).numbers ≡ true
    → (lists m (queue_of old.queues d).numbers ≡ true) ⊎ ((m ≡ old.last + 1) × (d ≡ sent.destination))

-- a message is put in, ready; where memory is refused, idle queues go at most
abbrev pub Stores : {A E : Type 0} → Holding → Sent → Holding → Result A E → Type 0
Stores old sent new (Ok _) = Puts old sent new × ListsOnly old sent new
Stores old sent new (Err _) = LooksElsewhere old new

-- A SEND is accepted.
pub record PutsOne (full : ℕ) (old : Holding) (sent : Sent) (new : Holding) : Type 0 where
  pub sound : IsSound new
  pub puts : Puts old sent new
  pub only : ListsOnly old sent new
  pub step : (accepted : List Accepted) → put_of full (book_of old accepted) sent
      ≡ Ok (book_of new (accepted ++ record { number = old.last + 1; sent = sent } ∷ []))

-- A SEND is refused.
pub record PutsNone (full : ℕ) (old : Holding) (sent : Sent) (fault : QueueFault) (new : Holding) : Type 0 where
  pub sound : IsSound new
  pub moves : LooksElsewhere old new
  pub refused : (fault ≡ Memory) ⊎ ((accepted : List Accepted) → put_of full (book_of old accepted) sent ≡ Err fault)

-- one or the other
abbrev pub PutsIn : {A : Type 0} → ℕ → Holding → Sent → Holding → Result A QueueFault → Type 0
PutsIn full old sent new (Ok _) = PutsOne full old sent new
PutsIn full old sent new (Err fault) = PutsNone full old sent fault new

-- ---- messages go

-- whether a message is gone
abbrev pub is_gone : Option Fate → Bool
is_gone None = true
is_gone (Some fate) = false

-- The parts agree, and nothing of the book changed.
pub record Tidies (old new : Holding) : Type 0 where
  pub sound : IsSound new
  pub living : living_of new.kept ≡ living_of old.kept
  pub subscriptions : subscriptions_of new.subscribers ≡ subscriptions_of old.subscribers
  pub last : new.last ≡ old.last
  pub given : new.given ≡ old.given

-- what is no longer needed goes
abbrev pub Sweeps : Holding → Holding → Type 0
Sweeps old new = IsSound old → Tidies old new

-- A message that is gone is taken out: nothing lists it at its destination.
pub record Takes (old : Holding) (n : ℕ) (k : Kept) (new : Holding) : Type 0 where
  pub kept : new.kept ≡ filter (λ k. not (k.number == n)) old.kept
  pub subscribers : new.subscribers ≡ old.subscribers
  pub last : new.last ≡ old.last
  pub given : new.given ≡ old.given
  pub listed : (d : List ℕ) (m : ℕ) → lists m (queue_of new.queues d).numbers ≡ true
      → lists m (queue_of old.queues d).numbers ≡ true
  pub away : lists n (queue_of new.queues k.sent.destination).numbers ≡ false

-- so it is for the message of a number, where it is gone
abbrev pub TakesOut : Holding → ℕ → Holding → Type 0
TakesOut old n new = (k : Kept) → IsSound old → kept_at n old.kept ≡ Some k → k.fate ≡ None → Takes old n k new

-- What becomes of the other messages and of the subscribers where a message is taken out if it is gone.
pub record Forgets (old : Holding) (n : ℕ) (new : Holding) : Type 0 where
  pub subscribers : new.subscribers ≡ old.subscribers
  pub kept : (m : ℕ) (k : Kept) → kept_at m new.kept ≡ Some k → kept_at m old.kept ≡ Some k
  pub gone : (m : ℕ) (k : Kept) → kept_at m new.kept ≡ Some k → m ≡ n → is_gone k.fate ≡ false

-- whether the message of a delivery isn't out any more
abbrev pub is_stale : List Kept → Entry → Bool
is_stale kept e = not (passes is_out_fate (fate_of_kept (kept_at e.number kept)))

-- the first of a subscriber's deliveries whose message isn't out any more
abbrev pub first_stale : List Kept → Option Subscriber → Option Entry
first_stale kept None = None
first_stale kept (Some s) = find (is_stale kept) s.entries

-- Of the messages that a subscriber noted none is gone and still kept, but for those that it notes yet.
pub record Clearing (age : ℕ) (s : Subscriber) (new : Holding) : Type 0 where
  pub now : Subscriber
  pub sits : subscriber_at age new.subscribers ≡ Some now
  pub subscription : now.subscription ≡ s.subscription
  pub kept : (n : ℕ) (k : Kept) → kept_at n new.kept ≡ Some k → notes n s.entries ≡ true
      → (is_gone k.fate ≡ false) ⊎ (notes n now.entries ≡ true)

-- Of the messages that a subscriber noted none is gone and still kept.
pub record Cleared (age : ℕ) (s : Subscriber) (new : Holding) : Type 0 where
  pub now : Subscriber
  pub sits : subscriber_at age new.subscribers ≡ Some now
  pub subscription : now.subscription ≡ s.subscription
  pub kept : (n : ℕ) (k : Kept) → kept_at n new.kept ≡ Some k → notes n s.entries ≡ true → is_gone k.fate ≡ false

-- so it is then for the subscriber of an age
abbrev pub Clears : Holding → ℕ → Holding → Type 0
Clears old age new = (s : Subscriber) → IsSound old → subscriber_at age old.subscribers ≡ Some s → Cleared age s new

-- Messages were taken out at most, and of the subscribers none but the one of an age has changed.
pub record SweptOne (old : Holding) (age : ℕ) (new : Holding) : Type 0 where
  pub kept : (n : ℕ) (k : Kept) → kept_at n new.kept ≡ Some k → kept_at n old.kept ≡ Some k
  pub others : (b : ℕ) → (b ≡ age → ⊥) → subscriber_at b new.subscribers ≡ subscriber_at b old.subscribers

-- so it is where a subscriber was swept
abbrev pub SweepsOne : Holding → ℕ → Holding → Type 0
SweepsOne old age new = IsSound old → SweptOne old age new

-- whether a subscriber notes more deliveries than are out to it
abbrev pub notes_more : Option Subscriber → Bool
notes_more None = false
notes_more (Some s) = nat_lt s.count (length s.entries)

-- none of these messages is gone
abbrev pub NoneGone : List Kept → Type 0
NoneGone kept = (n : ℕ) (k : Kept) → kept_at n kept ≡ Some k → is_gone k.fate ≡ false

-- A delivery of a message was taken back and forgotten, and the message taken out if it was gone then.
pub record AnsweredAlone (old : Holding) (n : ℕ) (k : Kept) (again : Bool) (new : Holding) : Type 0 where
  pub between : Holding
  pub changes : Changes old n k (back again) between
  pub given : between.given ≡ old.given
  pub tidies : Tidies between new
  pub none_gone : NoneGone old.kept → NoneGone new.kept

-- so it is for a message that is out to the subscriber of an age
abbrev pub AnswersAlone : Holding → ℕ → ℕ → Bool → Holding → Type 0
AnswersAlone old age n again new = (k : Kept) (s : Subscriber) → IsSound old → kept_at n old.kept ≡ Some k
    → subscriber_at age old.subscribers ≡ Some s
    → passes (out_to s.subscription.session s.subscription.id) k.fate ≡ true
    → AnsweredAlone old n k again new

-- The parts agree, and nothing that is gone is kept.
pub record IsTidy (h : Holding) : Type 0 where
  pub sound : IsSound h
  pub none_gone : NoneGone h.kept

-- ---- subscriptions come and go

-- A subscriber is listed at its destination, which learns that it has credit, and at its session.
pub record Attached (old : Holding) (name : List ℕ) (session : ℕ) (place : KeyedPlace) (new : Holding) : Type 0 where
  pub between : List ℕ → Option Queue
  pub becomes : Becomes (with_subscriber place) old.queues between name
  pub frees : Frees name place.number between new.queues old.awake new.awake
  pub sessions : Sets old.sessions new.sessions session (old.sessions session ++ place ∷ [])
  pub rest : new ≡ record old { queues = new.queues; sessions = new.sessions; awake = new.awake }

-- it is; where memory is refused, idle queues go at most
abbrev pub Attaches : {A E : Type 0} → Holding → List ℕ → ℕ → KeyedPlace → Holding → Result A E → Type 0
Attaches old name session place new (Ok _) = Attached old name session place new
Attaches old name session place new (Err _) = Closes old.queues new.queues × (new ≡ record old { queues = new.queues })

-- a subscription comes; where memory is refused, nothing of the book changes
abbrev pub SubscribesTo : {A E : Type 0} → Holding → Subscription → Holding → Result A E → Type 0
SubscribesTo old s new (Ok _) = IsSound new
    × ((accepted : List Accepted) → book_of new accepted ≡ subscribed (book_of old accepted) s)
SubscribesTo old s new (Err _) = Tidies old new

-- A subscriber to whom nothing is out goes, and its destination's queue with it if that is idle then.
pub record Detached (old : Holding) (age : ℕ) (s : Subscriber) (new : Holding) : Type 0 where
  pub between : Holding
  pub leaves : Leaves old age s between
  pub moves : LooksElsewhere between new
  pub session : new.sessions s.subscription.session ≡ without age (old.sessions s.subscription.session)

-- so it is for the subscriber of an age, if there is one
abbrev pub Detaches : Holding → ℕ → Holding → Type 0
Detaches old age new = (s : Subscriber) → IsSound old → subscriber_at age old.subscribers ≡ Some s
    → ((n : ℕ) (k : Kept) → kept_at n old.kept ≡ Some k
    → passes (out_to s.subscription.session s.subscription.id) k.fate ≡ false)
    → Detached old age s new

-- A subscription has ended.
pub record Releases (old : Holding) (age : ℕ) (s : Subscriber) (new : Holding) : Type 0 where
  pub sound : IsSound new
  pub book : (accepted : List Accepted) → book_of new accepted
      ≡ released (book_of old accepted) s.subscription.session s.subscription.id
  pub session : new.sessions s.subscription.session ≡ without age (old.sessions s.subscription.session)
  pub none_gone : NoneGone old.kept → NoneGone new.kept

-- that of the subscriber of an age ends, if there is one
abbrev pub EndsOne : Holding → ℕ → Holding → Type 0
EndsOne old age new =
    (s : Subscriber) → IsSound old → subscriber_at age old.subscribers ≡ Some s → Releases old age s new

-- whether a subscriber has this name
abbrev pub named_by : ℕ → List ℕ → Option Subscriber → Bool
named_by session id None = false
named_by session id (Some s) = is_named session id s.subscription

-- whether the subscriber at a place has this name
abbrev pub is_named_at : List Subscriber → ℕ → List ℕ → KeyedPlace → Bool
is_named_at subscribers session id p = named_by session id (subscriber_at p.number subscribers)

-- a session's subscription of this name has ended
abbrev pub ReleasesNamed : Holding → ℕ → List ℕ → Holding → Type 0
ReleasesNamed old session id new = IsSound old
    → IsSound new × ((accepted : List Accepted) → book_of new accepted ≡ released (book_of old accepted) session id)
    × (NoneGone old.kept → NoneGone new.kept)

-- Some subscriptions of a session have ended; at most so many are left.
pub record EndsSome (old : Holding) (session most : ℕ) (new : Holding) : Type 0 where
  pub sound : IsSound new
  pub book : (accepted : List Accepted) → ended (book_of new accepted) session ≡ ended (book_of old accepted) session
  pub left : length (new.sessions session) ≤ most
  pub none_gone : NoneGone old.kept → NoneGone new.kept

-- one of them has, if there is any
abbrev pub EndsFirst : Holding → ℕ → Holding → Type 0
EndsFirst old session new = IsSound old → EndsSome old session (length (old.sessions session) - 1) new

-- all subscriptions of a session have
abbrev pub EndsAll : Holding → ℕ → Holding → Type 0
EndsAll old session new = IsSound old
    → IsSound new × ((accepted : List Accepted) → book_of new accepted ≡ ended (book_of old accepted) session)
    × (NoneGone old.kept → NoneGone new.kept)
