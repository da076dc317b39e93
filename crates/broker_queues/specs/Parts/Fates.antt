-- What a step does with the fates of messages.
use Rattle.std.specs.Prelude.{ℕ, ◌+◌, ◌-◌, Bool, true, false, ◌&&◌, if◌then◌else◌, List, Option, Some, None, find}
use Rattle.broker_book.specs.declared.parts.Mode.{Mode}
use Rattle.broker_book.specs.declared.parts.Mode.TheVariants.{Auto, Client, Individual}
use Rattle.broker_book.specs.declared.parts.Subscription.{Subscription}
use Rattle.broker_book.specs.Books.{Fate, Ready, Out, QueuedMessage, out_to}
use Rattle.broker_book.specs.Books.{out_as}
use Rattle.broker_book.specs.Steps.{covered}
use Rattle.broker_index.specs.Index.{Kept, Subscriber}
use Rattle.broker_index.specs.declared.places.Entry.{Entry}
use Rattle.std.specs.List.{list_any}
use Rattle.broker_index.specs.declared.places.KeyedPlace.{KeyedPlace}
use Rattle.broker_queues.specs.Parts.Facts.{notes, kept_at, subscriber_at}

-- whether a fate passes a test; what is gone fails
abbrev pub passes : (Fate → Bool) → Option Fate → Bool
passes test None = false
passes test (Some fate) = test fate

-- how much a message of this fate counts for a subscriber
abbrev pub counts_for : Subscriber → Option Fate → ℕ
counts_for s fate = if passes (out_to s.subscription.session s.subscription.id) fate then 1 else 0

-- a subscriber when a message goes from one fate to another
abbrev pub recounted : Option Fate → Option Fate → Subscriber → Subscriber
recounted before after s = record s { count = (s.count + counts_for s after) - counts_for s before }

-- how much a message counts in a test, none for nothing
abbrev pub weight : (QueuedMessage → Bool) → Option QueuedMessage → ℕ
weight test None = 0
weight test (Some m) = if test m then 1 else 0

-- a message with another fate
abbrev pub fated : Option Fate → Kept → Kept
fated fate k = record k { fate = fate }

-- a message with this fate, if its own passes a test
abbrev pub turn_if : Option Fate → (Fate → Bool) → Kept → Kept
turn_if to test k = if passes test k.fate then fated to k else k

-- the same, if it is among deliveries as well
abbrev pub turn_among : Option Fate → (Fate → Bool) → List Entry → Kept → Kept
turn_among to test entries k = if passes test k.fate && notes k.number entries then fated to k else k

-- a kept message's fate; none for nothing
abbrev pub fate_of_kept : Option Kept → Option Fate
fate_of_kept None = None
fate_of_kept (Some k) = k.fate

-- whether an answer to a delivery of a subscription counts for a message; without an answer, whether it is out to the
-- subscription
abbrev pub counts_in : Subscription → Option ℕ → Fate → Bool
counts_in s None = out_to s.session s.id
counts_in s (Some answered) = covered s answered

-- whether an answer to a delivery counts for it alone
abbrev pub counts_alone : Mode → Bool
counts_alone Auto = true
counts_alone Client = false
counts_alone Individual = true

-- whether an answer to a delivery of a subscription counts for the message of one
abbrev pub is_covered : List Kept → Subscription → ℕ → Entry → Bool
is_covered kept s answered e = passes (covered s answered) (fate_of_kept (kept_at e.number kept))

-- the delivery to a subscriber for which alone an answer counts; none, where it may count for more
abbrev pub sole_covered : List Kept → ℕ → Option Subscriber → Option Entry
sole_covered kept answered None = None
sole_covered kept answered (Some s) =
    if counts_alone s.subscription.mode then find (is_covered kept s.subscription answered) s.entries else None

-- whether a delivery of this number is out to a subscriber
abbrev pub is_held : List Kept → ℕ → Subscriber → Bool
is_held kept number s =
    list_any (λ e. passes (out_as s.subscription.session s.subscription.id number)
    (fate_of_kept (kept_at e.number kept))) s.entries

-- the same of the subscriber at a place, where there is one
abbrev pub is_held_of : List Kept → ℕ → Option Subscriber → Bool
is_held_of kept number None = false
is_held_of kept number (Some s) = is_held kept number s

-- whether it is out to the subscriber at a place
abbrev pub is_held_at : List Kept → List Subscriber → ℕ → KeyedPlace → Bool
is_held_at kept subscribers number p = is_held_of kept number (subscriber_at p.number subscribers)

-- the fate of a message that goes out to a subscription, as a delivery of this number unless that is `auto`
abbrev pub dealt_fate : Subscription → Option ℕ → Option Fate
dealt_fate to None = None
dealt_fate to (Some ack) = Some (Out to.session to.id ack)

-- the fate of a message whose delivery is taken back: it is ready again, or gone
abbrev pub back : Bool → Option Fate
back again = if again then Some Ready else None
