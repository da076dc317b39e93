-- What holds of a book after any run from the empty one.
use Rattle.std.specs.Prelude.{◌≡◌, ℕ, ◌+◌, ◌≤◌, ◌<◌, Bool, true, false, not, ◌&&◌, ◌==◌, nat_le, if◌then◌else◌, List}
use Rattle.std.specs.Prelude.{[], ◌∷◌}
use Rattle.std.specs.Prelude.{◌++◌, map, count_by, length, Ok}
use Rattle.std.specs.List.{list_any, AllByRecursion}
use Rattle.broker_book.specs.declared.parts.Sent.{Sent}
use Rattle.broker_book.specs.declared.parts.Subscription.{Subscription}
use Rattle.broker_book.specs.declared.parts.Accepted.{Accepted}
use Rattle.broker_book.specs.declared.parts.Action.{Action}
use Rattle.broker_book.specs.Books.{Book, QueuedMessage, Fate, Ready, Out, empty_book, is_named}
use Rattle.broker_book.specs.Steps.{Handed, Deals, apply_of}
use Rattle.broker_book.specs.Runs.{BookEvent, Hands, Run, ShowAs, ended_in, put_in, taken_in, handed_in}

-- ---- runs

-- deals are a run, event by event
abbrev pub DealsAreRuns : Type 0
DealsAreRuns = (old new : Book) (handed : List Handed) → Deals old handed new → Run old (map Hands handed) new

-- actions that are applied are a run, event by event
abbrev pub ActionsAreRuns : Type 0
ActionsAreRuns =
    (full session : ℕ) (old new : Book) (actions : List Action) → apply_of full session old actions ≡ Ok new
    → (events : List BookEvent) × ShowAs full session actions events × Run old events new

-- a run and one behind it are a run
abbrev pub RunsJoin : Type 0
RunsJoin = (old mid new : Book) (events more : List BookEvent) → Run old events mid → Run mid more new
    → Run old (events ++ more) new

-- ---- orderly

-- the numbers of messages rise from above one number, and are at most another
abbrev pub RiseTo : ℕ → ℕ → List QueuedMessage → Type 0
RiseTo low last [] = low ≤ last
RiseTo low last (m ∷ ms) = (low < m.number) × RiseTo m.number last ms

-- whether a fate is out as the delivery of this number
abbrev pub is_delivery : ℕ → Fate → Bool
is_delivery number Ready = false
is_delivery number (Out s i n) = n == number

-- how many messages are out as the delivery of this number
abbrev pub deliveries : ℕ → List QueuedMessage → ℕ
deliveries number ms = count_by (λ (m : QueuedMessage). is_delivery number m.fate) ms

-- whether a fate is ready, or out to one of these subscriptions
abbrev pub is_at : List Subscription → Fate → Bool
is_at subscriptions Ready = true
is_at subscriptions (Out session id number) = list_any (is_named session id) subscriptions

-- Messages stand in order of their numbers, none above the last; no delivery number is out twice, and none above the
-- last that was given; what is out is out to a subscription that is there; and no session has two subscriptions of one
-- name.
pub record IsOrderly (b : Book) : Type 0 where
  pub rising : RiseTo 0 b.last b.living
  pub given : (number : ℕ) → b.given < number → deliveries number b.living ≡ 0
  pub once : (number : ℕ) → deliveries number b.living ≤ 1
  pub there : AllByRecursion (λ (m : QueuedMessage). is_at b.subscriptions m.fate ≡ true) b.living
  pub named : (session : ℕ) (id : List ℕ) → count_by (is_named session id) b.subscriptions ≤ 1

-- so it is after any run
abbrev pub BooksAreOrderly : Type 0
BooksAreOrderly = (events : List BookEvent) (b : Book) → Run empty_book events b → IsOrderly b

-- ---- nothing is lost

-- whether a message has this number
abbrev pub is_numbered : ℕ → QueuedMessage → Bool
is_numbered number m = m.number == number

-- each number from 1 to the last is that of one living message or was ended once, and never both; no other number is
-- either
abbrev pub IsKept : Book → List ℕ → Type 0
IsKept b numbers = (n : ℕ) → count_by (is_numbered n) b.living + count_by (λ e. e == n) numbers
    ≡ (if nat_le 1 n && nat_le n b.last then 1 else 0)

-- so it is after any run
abbrev pub MessagesAreKept : Type 0
MessagesAreKept = (events : List BookEvent) (b : Book) → Run empty_book events b → IsKept b (ended_in events)

-- a message that was put lives, unless an ACK covered it or it went out in mode `auto`
abbrev pub NothingIsLost : Type 0
NothingIsLost = (events : List BookEvent) (b : Book) → Run empty_book events b → (n : ℕ) → 1 ≤ n → n ≤ b.last
    → list_any (is_numbered n) b.living ≡ not (list_any (λ e. e == n) (ended_in events))

-- ---- each accepted once

-- these SENDs with the numbers behind this one, in order
abbrev pub numbered : ℕ → List Sent → List Accepted
numbered last [] = []
numbered last (s ∷ ss) = record { number = last + 1; sent = s } ∷ numbered (last + 1) ss

-- along a run, what was taken and what wasn't yet are the SENDs that were put, in order, with the numbers from 1 to the
-- last
abbrev pub EachIsAcceptedOnce : Type 0
EachIsAcceptedOnce = (events : List BookEvent) (b : Book) → Run empty_book events b
    → (taken_in events ++ b.accepted ≡ numbered 0 (put_in events)) × (b.last ≡ length (put_in events))

-- ---- each as it was put

-- each of these passes a test
abbrev pub AllPass : (Accepted → Bool) → List Accepted → Type 0
AllPass p accepted = AllByRecursion (λ (a : Accepted). p a ≡ true) accepted

-- a message's number, with what its SEND brought
abbrev pub as_accepted : QueuedMessage → Accepted
as_accepted m = record { number = m.number; sent = m.sent }

-- whatever holds of each SEND that was put, with its number, holds of each living message and of each one that was
-- handed out
abbrev pub EachIsAsPut : Type 0
EachIsAsPut = (p : Accepted → Bool) (events : List BookEvent) (b : Book) → Run empty_book events b
    → AllPass p (numbered 0 (put_in events)) → AllPass p (map as_accepted b.living) × AllPass p (handed_in events)
