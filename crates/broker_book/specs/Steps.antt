-- The steps that change a book.
use Rattle.std.specs.Prelude.{◌≡◌, ℕ, ◌+◌, ◌-◌, ◌^◌, Bool, true, false, not, ◌&&◌, ◌==◌, nat_lt, if◌then◌else◌, List}
use Rattle.std.specs.Prelude.{[]}
use Rattle.std.specs.Prelude.{◌∷◌, ◌++◌, map, filter, count_by, find, Option, Some, None, Result, Ok, Err}
use Rattle.std.specs.List.{list_any}
use Rattle.std.specs.Str.{bytes_eq}
use Rattle.broker_book.specs.declared.fault.QueueFault.{QueueFault}
use Rattle.broker_book.specs.declared.fault.QueueFault.TheVariants.{Memory, NoSuchAck, QueueFull, TooMany}
use Rattle.broker_book.specs.declared.parts.Sent.{Sent}
use Rattle.broker_book.specs.declared.parts.Subscription.{Subscription}
use Rattle.broker_book.specs.declared.parts.Action.{Action}
use Rattle.broker_book.specs.declared.parts.Action.TheVariants.{Put, Ack, Nack}
use Rattle.broker_book.specs.Books.{Book, QueuedMessage, Fate, Ready, Out, out_as, out_to, out_of, is_for, is_named}
use Rattle.broker_book.specs.Books.{is_auto, reaches}
use Rattle.broker_book.specs.Books.{is_ready}
use Rattle.broker_book.specs.Books.{may_take, is_due, IsQuiet}

-- ---- deals

-- a message that is handed out: its number, what its SEND brought, to whom it goes, and the delivery's number unless
-- that is `auto`
pub record Handed : Type 0 where
  pub number : ℕ
  pub sent : Sent
  pub to : Subscription
  pub ack : Option ℕ

-- what is left of a message that goes out
abbrev pub left_of : QueuedMessage → Subscription → Option ℕ → List QueuedMessage
left_of m to None = []
left_of m to (Some n) = record m { fate = Out to.session to.id n } ∷ []

-- the last delivery number then
abbrev pub last_given : ℕ → Option ℕ → ℕ
last_given before None = before
last_given before (Some n) = n

-- the number of the next delivery to a subscription
abbrev pub next_ack : Book → Subscription → Option ℕ
next_ack b s = if is_auto s.mode then None else Some (b.given + 1)

-- The first message that is due goes out to the oldest subscription that may take it.
pub record Deal (old : Book) (d : Handed) (new : Book) : Type 0 where
  pub message : QueuedMessage
  pub front : List QueuedMessage
  pub back : List QueuedMessage
  pub found : old.living ≡ front ++ message ∷ back
  pub first : list_any (is_due old) front ≡ false
  pub ready : is_ready message ≡ true
  pub oldest : find (may_take old message) old.subscriptions ≡ Some d.to
  pub number : d.number ≡ message.number
  pub sent : d.sent ≡ message.sent
  pub ack : d.ack ≡ next_ack old d.to
  pub changed : new ≡ record old {
    living = front ++ (left_of message d.to d.ack ++ back);
    given = last_given old.given d.ack;
  }

-- one deal after another
abbrev pub Deals : Book → List Handed → Book → Type 0
Deals old [] new = new ≡ old
Deals old (d ∷ ds) new = (mid : Book) × Deal old d mid × Deals mid ds new

-- ---- puts

-- the book with one message more, ready
abbrev pub with_message : Book → Sent → Book
with_message b sent = record b {
  living = b.living ++ record { number = b.last + 1; sent = sent; fate = Ready } ∷ [];
  last = b.last + 1;
  accepted = b.accepted ++ record { number = b.last + 1; sent = sent } ∷ [];
}

-- a SEND is accepted where its destination has fewer than `full` messages and a number is left
abbrev pub put_of : ℕ → Book → Sent → Result Book QueueFault
put_of full b sent =
    if nat_lt (count_by (is_for sent.destination) b.living) full
    then (if nat_lt b.last (2 ^ 64 - 1) then Ok (with_message b sent) else Err TooMany)
    else Err QueueFull

-- ---- answers

-- whether a delivery of this number is out to a subscription of a session
abbrev pub holds_out : Book → ℕ → ℕ → Subscription → Bool
holds_out b session number s = s.session == session && list_any (λ m. out_as s.session s.id number m.fate) b.living

-- the subscription of a session to which it is out
abbrev pub holder : Book → ℕ → ℕ → Option Subscription
holder b session number = find (holds_out b session number) b.subscriptions

-- whether an answer to a delivery of a subscription counts for a message
abbrev pub covered : Subscription → ℕ → Fate → Bool
covered s answered Ready = false
covered s answered (Out x i n) = x == s.session && bytes_eq i s.id && reaches s.mode answered n

-- a message that is ready again if its fate passes a test
abbrev pub ready_if : (Fate → Bool) → QueuedMessage → QueuedMessage
ready_if test m = if test m.fate then record m { fate = Ready } else m

-- the messages for which an ACK counts are gone
abbrev pub acked : Book → ℕ → Option Subscription → Result Book QueueFault
acked b number None = Err NoSuchAck
acked b number (Some s) = Ok (record b { living = filter (λ m. not (covered s number m.fate)) b.living })

-- those for which a NACK counts are ready again, in their old places
abbrev pub nacked : Book → ℕ → Option Subscription → Result Book QueueFault
nacked b number None = Err NoSuchAck
nacked b number (Some s) = Ok (record b { living = map (ready_if (covered s number)) b.living })

-- an ACK of a session
abbrev pub ack_of : Book → ℕ → ℕ → Result Book QueueFault
ack_of b session number = acked b number (holder b session number)

-- a NACK of a session
abbrev pub nack_of : Book → ℕ → ℕ → Result Book QueueFault
nack_of b session number = nacked b number (holder b session number)

-- ---- subscriptions

-- a new subscription, the youngest
abbrev pub subscribed : Book → Subscription → Book
subscribed b s = record b { subscriptions = b.subscriptions ++ s ∷ [] }

-- a subscription has ended: what was out to it is ready again, in its old place
abbrev pub released : Book → ℕ → List ℕ → Book
released b session id = record b {
  living = map (ready_if (out_to session id)) b.living;
  subscriptions = filter (λ s. not (is_named session id s)) b.subscriptions;
}

-- all subscriptions of a session have
abbrev pub ended : Book → ℕ → Book
ended b session = record b {
  living = map (ready_if (out_of session)) b.living;
  subscriptions = filter (λ s. not (s.session == session)) b.subscriptions;
}

-- ---- several actions: all in order, or at the first refusal none

-- one action of a session
abbrev pub act_of : ℕ → ℕ → Book → Action → Result Book QueueFault
act_of full session b (Put sent) = put_of full b sent
act_of full session b (Ack number) = ack_of b session number
act_of full session b (Nack number) = nack_of b session number

-- actions behind what came before, unless that was refused
abbrev pub then_all : ℕ → ℕ → List Action → Result Book QueueFault → Result Book QueueFault
then_all full session [] r = r
then_all full session (a ∷ actions) (Ok b) = then_all full session actions (act_of full session b a)
then_all full session (a ∷ actions) (Err fault) = Err fault

-- the actions of a session
abbrev pub apply_of : ℕ → ℕ → Book → List Action → Result Book QueueFault
apply_of full session b actions = then_all full session actions (Ok b)

-- ---- answers: a step was made, or it was refused and nothing has changed

-- of a call that takes no memory
abbrev pub Exactly : {A : Type 0} → Result Book QueueFault → Book → Book → Result A QueueFault → Type 0
Exactly step old new (Ok _) = step ≡ Ok new
Exactly step old new (Err fault) = (step ≡ Err fault) × (new ≡ old)

-- of a call that may be refused memory
abbrev pub UnlessMemory : {A : Type 0} → Result Book QueueFault → Book → Book → Result A QueueFault → Type 0
UnlessMemory step old new (Ok _) = step ≡ Ok new
UnlessMemory step old new (Err Memory) = new ≡ old
UnlessMemory step old new (Err fault) = (step ≡ Err fault) × (new ≡ old)

-- ---- dispatching: deals until quiet, or until what is handed out isn't taken

-- each of these was taken, one after another
abbrev pub Taken : {S : Type 0} → (S → Handed → S → Type 0) → S → List Handed → S → Type 0
Taken takes old [] new = new ≡ old
Taken {S} takes old (d ∷ ds) new = (mid : S) × takes old d mid × Taken takes mid ds new

-- some deals, each handed out and taken
pub record Dealt {S : Type 0} (takes : S → Handed → S → Type 0) (old : Book) (from : S) (new : Book) (to : S) : Type 0
  where
    pub handed : List Handed
    pub deals : Deals old handed new
    pub taken : Taken takes from handed to

-- What dispatching answers: all was dealt that could be; or memory was refused behind some deals.
abbrev pub Dispatches : {S E : Type 0} → (S → Handed → S → Type 0) → Book → S → Book → S → Result (Unit {0}) E → Type 0
Dispatches takes old from new to (Ok _) = Dealt takes old from new to × IsQuiet new
Dispatches takes old from new to (Err _) = Dealt takes old from new to
