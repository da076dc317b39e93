-- What frames ask for, and what a run of the book does of it.
use Rattle.std.specs.Prelude.{◌≤◌, ℕ, Bool, false, List, [], ◌∷◌, count_by, Option, Some, None, Ok}
use Rattle.std.specs.List.{AllByRecursion, Contains, flat_map}
use Rattle.stomp_session.specs.declared.request.Request.TheVariants.{Send, Ack, Nack}
use Rattle.broker_book.specs.Runs.{BookEvent, Puts, Acks, Nacks}
use Rattle.broker_book.specs.Steps.{Handed}
use Rattle.broker_book.specs.declared.parts.Accepted.{Accepted}
use Rattle.broker_book.specs.declared.parts.Sent.{Sent}
use Rattle.broker_core.specs.Calls.{empty}
use Rattle.broker_core.specs.Performing.{sent_of}
use Rattle.broker_core.specs.Serving.{Decided, Server}
use Rattle.text.specs.Numerals.{number_of}
use Rattle.laws_broker.specs.Lives.{BrokerCall, FedTo, Lives, accepted_in, dealt_in}

-- ---- what is asked for

-- a SEND, by what it brings; a session's ACK, or its NACK, to the delivery of a number
pub data BrokerDeed : Type 0 where
  Brings : (sent : Sent) → BrokerDeed
  Acknowledges : (session number : ℕ) → BrokerDeed
  Returns : (session number : ℕ) → BrokerDeed

-- an answer to the delivery that it names, if it names one
abbrev pub answering : (ℕ → BrokerDeed) → Option ℕ → List BrokerDeed
answering deed None = []
answering deed (Some number) = deed number ∷ []

-- what a session's frame asks for, at once or at the COMMIT of its transaction
abbrev pub asked_of : ℕ → Decided → List BrokerDeed
asked_of session (Ok (Send s)) = Brings (sent_of s) ∷ []
asked_of session (Ok (Ack a)) = answering (Acknowledges session) (number_of a.id)
asked_of session (Ok (Nack a)) = answering (Returns session) (number_of a.id)
asked_of session d = []

-- what frames that had their step in a call asked for
abbrev pub deeds_by : BrokerCall → List BrokerDeed
deeds_by (FedTo n fed answer) = flat_map (asked_of n) fed.frames
deeds_by c = []

-- what was asked for in these calls, in order
abbrev pub asked_in : List BrokerCall → List BrokerDeed
asked_in calls = flat_map deeds_by calls

-- ---- what is done

-- what an event does of it
abbrev pub done_by : BookEvent → List BrokerDeed
done_by (Puts full sent) = Brings sent ∷ []
done_by (Acks session number numbers) = Acknowledges session number ∷ []
done_by (Nacks session number) = Returns session number ∷ []
done_by e = []

-- what a run does, in order
abbrev pub done_in : List BookEvent → List BrokerDeed
done_in events = flat_map done_by events

-- these deeds were asked for, and none was done more often than it was asked for
abbrev pub WereAsked : List BrokerDeed → List BrokerDeed → Type 0
WereAsked done asked = (p : BrokerDeed → Bool) → count_by p done ≤ count_by p asked

-- ---- what is accepted

-- whether a deed is a SEND that brings what passes a test
abbrev pub brings : (Sent → Bool) → BrokerDeed → Bool
brings p (Brings sent) = p sent
brings p d = false

-- each SEND is accepted at most once: no more accepted SENDs pass a test than SEND frames that had their step
abbrev pub AcceptedWereSent : Type 0
AcceptedWereSent = (full : ℕ) (calls : List BrokerCall) (b : Server) → Lives full empty calls b → (p : Sent → Bool)
    → count_by (λ (a : Accepted). p a.sent) (accepted_in calls b) ≤ count_by (brings p) (asked_in calls)

-- each message that is handed out is what a SEND frame brought that had its step
abbrev pub MessagesWereSent : Type 0
MessagesWereSent = (full : ℕ) (calls : List BrokerCall) (b : Server) (h : Lives full empty calls b)
    → AllByRecursion (λ (d : Handed). Contains (asked_in calls) (Brings d.sent)) (dealt_in full empty calls b h)
