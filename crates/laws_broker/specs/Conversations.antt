-- A client that reads what a broker writes.
use Rattle.std.specs.Prelude.{◌≡◌, ◌≢◌, ℕ, true, List, [], ◌∷◌, ◌++◌, Some, Result, Ok, IsOk}
use Rattle.std.specs.List.{AllByRecursion, Contains}
use Rattle.base.specs.declared.limits.TheConstants.{MAX_BODY}
use Rattle.stomp_frame.specs.declared.command.Command.TheVariants.{Receipt}
use Rattle.stomp_frame.specs.Awaiting.{Awaits}
use Rattle.stomp_frame.specs.Calls.{DecoderCall as Reading, LeadsFromNew, fed, given}
use Rattle.stomp_frame.specs.Decoding.{Held}
use Rattle.stomp_frame.specs.Frames.{Content}
use Rattle.stomp_wire.specs.Travel.{Travels}
use Rattle.stomp_session.specs.Requests.{ack_mode}
use Rattle.stomp_session.specs.declared.request.Request.TheVariants.{Subscribe}
use Rattle.stomp_session.specs.declared.request.Subscribe.{Subscribe as SubscribeParts}
use Rattle.stomp_client.specs.Accepting.{Accepts, is_open, receipt_number}
use Rattle.stomp_client.specs.Clients.{Client}
use Rattle.stomp_client.specs.declared.event.ClientEvent.{ClientEvent}
use Rattle.stomp_client.specs.declared.fault.ClientFault.{ClientFault}
use Rattle.stomp_client.specs.declared.session.Stage.{Stage}
use Rattle.stomp_client.specs.declared.session.Stage.TheVariants.{Connecting}
use Rattle.broker_book.specs.declared.parts.Mode.TheVariants.{Auto}
use Rattle.broker_core.specs.Calls.{empty}
use Rattle.broker_core.specs.Serving.{Server, session_of}
use Rattle.broker_core.specs.Words.{mode_of}
use Rattle.laws_broker.specs.Lives.{Account, BrokerCall, Lives, account, handled_in}
use Rattle.laws_broker.specs.Written.{IsAsked, IsBrought, IsLater, Speaks}

-- what was taken of a session's octets came over a wire to a decoder, which was fed it in any pieces and gave these
-- frames
pub record Comes (a : Account) (waiting carried : List ℕ) (frames : List Content) (held : Held) : Type 0 where
  pub received : List ℕ
  pub reading : List Reading
  pub travels : Travels a.taken received (Some waiting) (Some carried)
  pub happened : LeadsFromNew MAX_BODY reading held
  pub fed : fed reading ≡ received
  pub given : frames ≡ given reading

-- The frames that were given are the first of those that were written for the session; the others are awaited.
pub record IsRead (calls : List BrokerCall) (n : ℕ) (b : Server) (waiting carried : List ℕ) (frames : List Content)
    (held : Held) : Type 0 where
  pub speaks : Speaks (IsLater (IsBrought calls) (IsAsked calls) n) (account n calls) (session_of n b)
  pub others : List Content
  pub whole : speaks.frames ≡ frames ++ others
  pub awaits : Awaits MAX_BODY others held (carried ++ waiting ++ speaks.left)

-- so it is over any calls of a broker, however the octets are cut on their way
abbrev pub BrokersAreRead : Type 0
BrokersAreRead = (full : ℕ) (calls : List BrokerCall) (b : Server) (n : ℕ) (waiting carried : List ℕ)
    (frames : List Content) (held : Held)
    → Lives full empty calls b → Comes (account n calls) waiting carried frames held
    → IsRead calls n b waiting carried frames held

-- ---- a client

-- a session asked for no subscription of mode `auto`
abbrev pub AsksForAcks : List BrokerCall → ℕ → Type 0
AsksForAcks calls n = (request : SubscribeParts) → Contains (handled_in n calls) (Ok (Subscribe request))
    → mode_of (ack_mode request.ack) ≢ Some Auto

module _ {T : Type 0} where
  -- a RECEIPT tells one that is open
  abbrev pub TellsOpen : Content → Client T → Type 0
  TellsOpen f c = f.command ≡ Receipt → is_open c.receipts (receipt_number f) ≡ true

  -- A client at this stage accepts frames one after another, and answers so; between two it may do all but change its
  -- stage.
  abbrev pub AcceptsAll : Stage → List Content → List (Result (ClientEvent T) ClientFault) → Type 0
  AcceptsAll stage [] answers = answers ≡ []
  AcceptsAll stage (f ∷ frames) answers =
      (old : Client T) × ((new : Client T) × ((answer : Result (ClientEvent T) ClientFault) ×
      ((others : List (Result (ClientEvent T) ClientFault))
      × ((answers ≡ answer ∷ others) × (old.stage ≡ stage) × TellsOpen f old
      × Accepts f old new answer × AcceptsAll new.stage frames others))))

-- Each frame that was given is an event to a client that is connecting at the first, and asks for no subscription of
-- mode `auto`.
abbrev pub ClientsTakeAll : Type 0 → Type 0
ClientsTakeAll T = (full : ℕ) (calls : List BrokerCall) (b : Server) (n : ℕ) (waiting carried : List ℕ)
    (frames : List Content) (held : Held)
    (answers : List (Result (ClientEvent T) ClientFault)) → Lives full empty calls b
    → Comes (account n calls) waiting carried frames held → AsksForAcks calls n → AcceptsAll Connecting frames answers
    → AllByRecursion (λ answer. IsOk answer) answers
