-- What a broker writes for a session.
use Rattle.std.specs.Prelude.{◌≡◌, ℕ, Bool, true, false, not, List, [], ◌∷◌, ◌++◌, is_some, codes, Option, Some, None}
use Rattle.std.specs.Prelude.{Ok, Err}
use Rattle.std.specs.List.{AllByRecursion, Contains, flat_map}
use Rattle.stomp_frame.specs.declared.command.Command.{Command}
use Rattle.stomp_frame.specs.declared.command.Command.TheVariants.{Receipt}
use Rattle.stomp_frame.specs.Frames.{Content, Header, value_of}
use Rattle.stomp_session.specs.Replies.{connected_frame, receipt_frame, error_frame, message_frame}
use Rattle.stomp_session.specs.Requests.{ack_mode, receipt_of}
use Rattle.stomp_session.specs.declared.request.Request.TheVariants.{Send, Subscribe}
use Rattle.stomp_session.specs.declared.request.Send.{Send as SendParts}
use Rattle.stomp_session.specs.declared.request.Subscribe.{Subscribe as SubscribeParts}
use Rattle.stomp_client.specs.Written.{Wrote}
use Rattle.broker_book.specs.Books.{is_auto}
use Rattle.broker_book.specs.Steps.{Handed}
use Rattle.broker_book.specs.declared.parts.Sent.{Sent}
use Rattle.broker_book.specs.declared.parts.Subscription.{Subscription}
use Rattle.broker_core.specs.Calls.{empty}
use Rattle.broker_core.specs.Feeding.{delivery_of}
use Rattle.broker_core.specs.Performing.{sent_of}
use Rattle.broker_core.specs.Serving.{Decided, Server, session_of}
use Rattle.broker_core.specs.Words.{mode_of}
use Rattle.broker_core.specs.declared.session.Session.{Session}
use Rattle.laws_broker.specs.Lives.{Account, BrokerCall, Lives, account, handled_in}

-- ---- what a MESSAGE brings, and to whom

-- a SEND that a session handled brought this
pub record IsBrought (calls : List BrokerCall) (sent : Sent) : Type 0 where
  pub session : ℕ
  pub request : SendParts
  pub among : Contains (handled_in session calls) (Ok (Send request))
  pub same : sent ≡ sent_of request

-- a subscription's session handled a SUBSCRIBE with its name, its destination and its mode
pub record IsAsked (calls : List BrokerCall) (s : Subscription) : Type 0 where
  pub request : SubscribeParts
  pub among : Contains (handled_in s.session calls) (Ok (Subscribe request))
  pub id : s.id ≡ request.id
  pub destination : s.destination ≡ request.destination
  pub mode : mode_of (ack_mode request.ack) ≡ Some s.mode

-- ---- frames

-- What is written for a session behind CONNECTED: a MESSAGE of what was brought, to a subscription of the session that
-- was asked for and to this destination, with an ack unless its mode is `auto`; or a RECEIPT.
pub data IsLater (brought : Sent → Type 0) (asked : Subscription → Type 0) (n : ℕ) (f : Content) : Type 0 where
  message : (d : Handed) → brought d.sent → asked d.to → d.to.session ≡ n → d.to.destination ≡ d.sent.destination
      → is_some d.ack ≡ not (is_auto d.to.mode) → f ≡ message_frame (delivery_of d) → IsLater brought asked n f
  receipt : (value : List ℕ) → f ≡ receipt_frame value → IsLater brought asked n f

-- an ERROR of a fault's number and name
pub record IsError (f : Content) : Type 0 where
  pub number : ℕ
  pub name : List ℕ
  pub receipt : Option (List ℕ)
  pub is : f ≡ error_frame number name receipt

-- What was written for a session from its beginning, where it is connected or not, and closed or not: nothing;
-- CONNECTED and what is written behind it; and at the end one ERROR, if any.
pub data Told (later : Content → Type 0) (connected closed : Bool) (frames : List Content) : Type 0 where
  nothing : connected ≡ false → closed ≡ false → frames ≡ [] → Told later connected closed frames
  refused : (f : Content) → closed ≡ true → IsError f → frames ≡ f ∷ [] → Told later connected closed frames
  opened : (fs : List Content) → connected ≡ true → AllByRecursion later fs → frames ≡ connected_frame ∷ fs
      → Told later connected closed frames
  ended : (fs : List Content) → (f : Content) → closed ≡ true → AllByRecursion later fs → IsError f
      → frames ≡ connected_frame ∷ (fs ++ f ∷ []) → Told later connected closed frames

-- ---- receipts

-- a value, or none
abbrev pub listed : Option (List ℕ) → List (List ℕ)
listed None = []
listed (Some value) = value ∷ []

-- the receipt that a frame of this command tells, if it is a RECEIPT
abbrev pub receipt_by : Command → List Header → List (List ℕ)
receipt_by Receipt headers = listed (value_of (codes "receipt-id") headers)
receipt_by _ headers = []

-- the receipts that frames tell, in order
abbrev pub receipts_in : List Content → List (List ℕ)
receipts_in frames = flat_map (λ (f : Content). receipt_by f.command f.headers) frames

-- the receipt that a decided frame asks for, if it is a request
abbrev pub receipt_asked : Decided → List (List ℕ)
receipt_asked (Ok request) = listed (receipt_of request)
receipt_asked (Err r) = []

-- those that handled frames ask for, in order
abbrev pub receipts_asked : List Decided → List (List ℕ)
receipts_asked handled = flat_map receipt_asked handled

-- The RECEIPTs are those that the handled frames ask for, in order; where an ERROR has closed the session, the last may
-- be missing.
pub record Confirms (closed : Bool) (handled : List Decided) (frames : List Content) : Type 0 where
  pub missing : Option (List ℕ)
  pub receipts : receipts_asked handled ≡ receipts_in frames ++ listed missing
  pub all : closed ≡ false → missing ≡ None

-- ---- the whole

-- where there is a session, it is connected and closed as told, and has these octets
abbrev pub IsSoFar : Bool → Bool → List ℕ → Option Session → Type 0
IsSoFar connected closed out None = Unit {0}
IsSoFar connected closed out (Some s) = (s.server ≡ connected) × (s.closed ≡ closed) × (s.out ≡ out)

-- What was written for a session: the octets that were taken and those that weren't are the canonical texts of such
-- frames.
pub record Speaks (later : Content → Type 0) (a : Account) (s : Option Session) : Type 0 where
  pub frames : List Content
  pub left : List ℕ
  pub wrote : Wrote frames a.taken left
  pub connected : Bool
  pub closed : Bool
  pub told : Told later connected closed frames
  pub confirms : Confirms closed a.handled frames
  pub now : IsSoFar connected closed left s

-- so it is for each number after any calls from a broker with no session
abbrev pub BrokersSpeak : Type 0
BrokersSpeak = (full : ℕ) (calls : List BrokerCall) (b : Server) (n : ℕ) → Lives full empty calls b
    → Speaks (IsLater (IsBrought calls) (IsAsked calls) n) (account n calls) (session_of n b)
