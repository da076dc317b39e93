-- What can happen to a book, one event after another.
use Rattle.std.specs.Prelude.{◌≡◌, ℕ, false, if◌then◌else◌, List, [], ◌∷◌, map, filter, Option, Some, None, Ok}
use Rattle.std.specs.List.{list_any, flat_map}
use Rattle.broker_book.specs.declared.parts.Sent.{Sent}
use Rattle.broker_book.specs.declared.parts.Subscription.{Subscription}
use Rattle.broker_book.specs.declared.parts.Accepted.{Accepted}
use Rattle.broker_book.specs.declared.parts.Action.{Action}
use Rattle.broker_book.specs.declared.parts.Action.TheVariants.{Put, Ack, Nack}
use Rattle.broker_book.specs.Books.{Book, QueuedMessage, is_auto, is_named}
use Rattle.broker_book.specs.Steps.{Handed, Deal, put_of, ack_of, nack_of, holder, covered, subscribed, released, ended}

-- ---- events

-- a SEND is put; a message is handed out; a session's ACK ends messages of these numbers; its NACK makes messages ready
-- again; a subscription begins; it ends; all of a session's do; the SENDs accepted so far are taken
pub data BookEvent : Type 0 where
  Puts : (full : ℕ) → (sent : Sent) → BookEvent
  Hands : (handed : Handed) → BookEvent
  Acks : (session number : ℕ) → (numbers : List ℕ) → BookEvent
  Nacks : (session number : ℕ) → BookEvent
  Subscribes : (subscription : Subscription) → BookEvent
  Releases : (session : ℕ) → (id : List ℕ) → BookEvent
  Ends : (session : ℕ) → BookEvent
  Takes : (accepted : List Accepted) → BookEvent

-- the numbers of the messages for which an ACK counts
abbrev pub numbers_covered : Book → ℕ → Option Subscription → List ℕ
numbers_covered b number None = []
numbers_covered b number (Some s) =
    map (λ (m : QueuedMessage). m.number) (filter (λ m. covered s number m.fate) b.living)

-- an event leads from one book to another; a subscription begins only where the session has none of its name
abbrev pub BookStep : Book → BookEvent → Book → Type 0
BookStep old (Puts full sent) new = put_of full old sent ≡ Ok new
BookStep old (Hands d) new = Deal old d new
BookStep old (Acks session number numbers) new =
    (ack_of old session number ≡ Ok new) × (numbers ≡ numbers_covered old number (holder old session number))
BookStep old (Nacks session number) new = nack_of old session number ≡ Ok new
BookStep old (Subscribes s) new =
    (list_any (is_named s.session s.id) old.subscriptions ≡ false) × (new ≡ subscribed old s)
BookStep old (Releases session id) new = new ≡ released old session id
BookStep old (Ends session) new = new ≡ ended old session
BookStep old (Takes accepted) new = (accepted ≡ old.accepted) × (new ≡ record old { accepted = [] })

-- one event after another leads there
abbrev pub Run : Book → List BookEvent → Book → Type 0
Run old [] new = new ≡ old
Run old (e ∷ events) new = (mid : Book) × BookStep old e mid × Run mid events new

-- ---- what a run brought about

-- the numbers of the messages that an event ends: those that an ACK covers, and the one that goes out in mode `auto`
abbrev pub ended_by : BookEvent → List ℕ
ended_by (Hands d) = if is_auto d.to.mode then d.number ∷ [] else []
ended_by (Acks session number numbers) = numbers
ended_by e = []

-- the SEND that an event puts
abbrev pub put_by : BookEvent → List Sent
put_by (Puts full sent) = sent ∷ []
put_by e = []

-- the accepted SENDs that an event takes
abbrev pub taken_by : BookEvent → List Accepted
taken_by (Takes accepted) = accepted
taken_by e = []

-- what an event hands out: the message's number, and what its SEND brought
abbrev pub handed_by : BookEvent → List Accepted
handed_by (Hands d) = record { number = d.number; sent = d.sent } ∷ []
handed_by e = []

-- the numbers of the messages that a run ended, in order
abbrev pub ended_in : List BookEvent → List ℕ
ended_in events = flat_map ended_by events

-- the SENDs that it put, in order
abbrev pub put_in : List BookEvent → List Sent
put_in events = flat_map put_by events

-- the accepted SENDs that were taken along it, in order
abbrev pub taken_in : List BookEvent → List Accepted
taken_in events = flat_map taken_by events

-- what was handed out along it, in order
abbrev pub handed_in : List BookEvent → List Accepted
handed_in events = flat_map handed_by events

-- ---- steps that are runs

-- an action of a session shows as this event
abbrev pub ShowsAs : ℕ → ℕ → Action → BookEvent → Type 0
ShowsAs full session (Put sent) e = e ≡ Puts full sent
ShowsAs full session (Ack number) e = (numbers : List ℕ) × (e ≡ Acks session number numbers)
ShowsAs full session (Nack number) e = e ≡ Nacks session number

-- actions show as these events, one for one
abbrev pub ShowAs : ℕ → ℕ → List Action → List BookEvent → Type 0
ShowAs full session [] events = events ≡ []
ShowAs full session (a ∷ actions) events =
    (e : BookEvent) × (rest : List BookEvent) × (events ≡ e ∷ rest) × ShowsAs full session a e
    × ShowAs full session actions rest
