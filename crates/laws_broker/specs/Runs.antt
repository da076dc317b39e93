-- What a broker's calls make of its book, and what holds of its book after any of them.
use Rattle.std.specs.Prelude.{◌≡◌, ℕ, ◌+◌, ◌-◌, ◌<◌, Bool, true, Some, ◌&&◌, ◌==◌, nat_le, if◌then◌else◌, List, [], ◌∷◌}
use Rattle.std.specs.Prelude.{◌++◌, map}
use Rattle.std.specs.Prelude.{count_by, length}
use Rattle.std.specs.List.{flat_map, list_any, slice_get, AllByRecursion}
use Rattle.broker_book.specs.Books.{Book, empty_book, is_auto}
use Rattle.broker_book.specs.Laws.{IsOrderly, as_accepted, is_numbered, numbered}
use Rattle.broker_book.specs.Runs.{BookEvent, Acks, Hands, Run, taken_in}
use Rattle.broker_book.specs.Steps.{Handed}
use Rattle.broker_book.specs.declared.parts.Accepted.{Accepted}
use Rattle.broker_book.specs.declared.parts.Sent.{Sent}
use Rattle.broker_core.specs.Calls.{empty}
use Rattle.broker_core.specs.Serving.{Decided, Server, step}
use Rattle.laws_broker.specs.Lives.{BrokerCall, DoesCall, Lives, accepted_in, dealt_by, dealt_in, told_by, told_in}
use Rattle.laws_broker.specs.Deeds.{BrokerDeed, WereAsked, asked_in, done_in}

-- ---- runs of the book

-- what an event hands out
abbrev pub hands_by : BookEvent → List Handed
hands_by (Hands d) = d ∷ []
hands_by e = []

-- what a run hands out, in order
abbrev pub hands_in : List BookEvent → List Handed
hands_in events = flat_map hands_by events

-- the numbers of the messages for which the ACK of an event counts
abbrev pub acknowledged_by : BookEvent → List ℕ
acknowledged_by (Acks session number numbers) = numbers
acknowledged_by e = []

-- those of the ACKs of a run
abbrev pub acknowledged_in : List BookEvent → List ℕ
acknowledged_in events = flat_map acknowledged_by events

-- events led a book there, along which these accepted SENDs were taken, and these messages were handed out
pub record Runs (old : Book) (accepted : List Accepted) (dealt : List Handed) (new : Book) : Type 0 where
  pub events : List BookEvent
  pub run : Run old events new
  pub told : taken_in events ≡ accepted
  pub handed : hands_in events ≡ dealt

-- the step of a decided frame is a run of the book; it tells nothing, and hands nothing out
abbrev pub StepsAreRuns : Type 0
StepsAreRuns = (full n : ℕ) (decided : Decided) (b : Server) → Runs b.book [] [] (step full n decided b).book

-- each call is a run of the book, along which is taken what it tells, and handed out what it deals
abbrev pub CallsAreRuns : Type 0
CallsAreRuns = (full : ℕ) (old new : Server) (c : BrokerCall) (h : DoesCall full old c new)
    → Runs old.book (told_by c) (dealt_by full old c new h) new.book

-- so are calls, one after another
abbrev pub LivesAreRuns : Type 0
LivesAreRuns = (full : ℕ) (old new : Server) (calls : List BrokerCall) (h : Lives full old calls new)
    → Runs old.book (told_in calls) (dealt_in full old calls new h) new.book

-- ---- from a new broker

-- a book stays orderly
abbrev pub BrokersAreOrderly : Type 0
BrokersAreOrderly = (full : ℕ) (calls : List BrokerCall) (b : Server) → Lives full empty calls b → IsOrderly b.book

-- these are SENDs in order, with the numbers from 1 to the last that a message has
pub record AreNumbered (accepted : List Accepted) (last : ℕ) : Type 0 where
  pub sent : List Sent
  pub each : accepted ≡ numbered 0 sent
  pub last_of : last ≡ length sent

-- accepted SENDs are told once, and in order
abbrev pub AcceptedAreToldOnce : Type 0
AcceptedAreToldOnce = (full : ℕ) (calls : List BrokerCall) (b : Server) → Lives full empty calls b
    → AreNumbered (accepted_in calls b) b.book.last

-- a message that is handed out: its number, and what its SEND brought
abbrev pub brought : Handed → Accepted
brought d = record { number = d.number; sent = d.sent }

-- the accepted SEND of its number is this one: the first has the number 1, the second 2, and so on
abbrev pub StandsIn : List Accepted → Accepted → Type 0
StandsIn accepted a = slice_get accepted (a.number - 1) ≡ Some a

-- each message that is handed out is the accepted SEND of its number, whole, and so is each that lives
abbrev pub MessagesWereAccepted : Type 0
MessagesWereAccepted = (full : ℕ) (calls : List BrokerCall) (b : Server) (h : Lives full empty calls b)
    → AllByRecursion (StandsIn (accepted_in calls b)) (map brought (dealt_in full empty calls b h))
    × AllByRecursion (StandsIn (accepted_in calls b)) (map as_accepted b.book.living)

-- ---- in order

-- whether a message of this number is among those that were handed out
abbrev pub was_handed : List Handed → ℕ → Bool
was_handed handed number = list_any (λ (d : Handed). d.number == number) handed

-- no message overtakes another of its queue: when it is handed out, each accepted SEND of a lower number to its
-- destination was, before it
abbrev pub NoneOvertakes : Type 0
NoneOvertakes = (full : ℕ) (calls : List BrokerCall) (b : Server) (h : Lives full empty calls b)
    (before behind : List Handed) (d : Handed)
    → dealt_in full empty calls b h ≡ before ++ d ∷ behind → (a : Accepted) → StandsIn (accepted_in calls b) a
    → a.number < d.number
    → a.sent.destination ≡ d.sent.destination → was_handed before a.number ≡ true

-- ---- nothing is lost

-- whether a message of this number went out in mode `auto`, which wants no answer
abbrev pub is_gone : ℕ → Handed → Bool
is_gone number d = is_auto d.to.mode && d.number == number

-- Each number from 1 to the last is that of one living message, or of one that an ACK covered, or of one that went out
-- in mode `auto`, once and never two of these; no other number is any.
abbrev pub IsAccounted : Book → List ℕ → List Handed → Type 0
IsAccounted b acknowledged dealt = (n : ℕ)
    → count_by (is_numbered n) b.living + (count_by (λ k. k == n) acknowledged + count_by (is_gone n) dealt)
    ≡ (if nat_le 1 n && nat_le n b.last then 1 else 0)

-- the book is the end of a run along which nothing was done that these deeds don't ask for, and nothing was lost
pub record LosesNone (accepted : List Accepted) (dealt : List Handed) (asked : List BrokerDeed) (b : Book) : Type 0
  where
    pub runs : Runs empty_book accepted dealt b
    pub were_asked : WereAsked (done_in runs.events) asked
    pub accounted : IsAccounted b (acknowledged_in runs.events) dealt

-- in no life is a message lost
abbrev pub NoLifeLosesAny : Type 0
NoLifeLosesAny = (full : ℕ) (calls : List BrokerCall) (b : Server) (h : Lives full empty calls b)
    → LosesNone (told_in calls) (dealt_in full empty calls b h) (asked_in calls) b.book
