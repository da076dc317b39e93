-- What clients wrote, and the MESSAGEs that bring it.
use Rattle.std.specs.Prelude.{◌≡◌, ℕ, Bool, true, false, List, [], ◌∷◌, ◌++◌, codes, Some}
use Rattle.std.specs.List.{AllByRecursion, Contains}
use Rattle.stomp_frame.specs.declared.command.Command.TheVariants.{Message, Send}
use Rattle.stomp_frame.specs.Decoding.{Held}
use Rattle.stomp_frame.specs.Frames.{Content, Header, value_of}
use Rattle.stomp_wire.specs.Travel.{Travels}
use Rattle.stomp_session.specs.Headers.{own_headers, text_of}
use Rattle.stomp_client.specs.Frames.{connect_frame}
use Rattle.stomp_client.specs.Served.{IsClients}
use Rattle.stomp_client.specs.Written.{Wrote}
use Rattle.broker_core.specs.Calls.{empty}
use Rattle.broker_core.specs.Feeding.{answer_of}
use Rattle.broker_core.specs.Serving.{Decided, Server}
use Rattle.laws_broker.specs.Conversations.{AsksForAcks, Comes}
use Rattle.laws_broker.specs.Lives.{BrokerCall, Lives, account, handled_in, pieces_in}
use Rattle.laws_broker.specs.Written.{receipts_asked, receipts_in}

-- ---- from a client to its session

-- what a session was fed came over a wire from a client that wrote these frames
pub record IsFed (calls : List BrokerCall) (n : ℕ) (frames : List Content) : Type 0 where
  pub gone : List ℕ
  pub out : List ℕ
  pub waiting : List ℕ
  pub carried : List ℕ
  pub wrote : Wrote frames gone out
  pub travels : Travels gone (pieces_in n calls) (Some waiting) (Some carried)

-- frames as a session decides them, one behind the other: it is connected behind the first
abbrev pub decided_all : Bool → List Content → List Decided
decided_all connected [] = []
decided_all connected (f ∷ frames) = answer_of connected f ∷ decided_all true frames

-- what a session handled is the first frames that its client wrote, each once and in order
pub record AreHandled (frames : List Content) (handled : List Decided) : Type 0 where
  pub first : List Content
  pub others : List Content
  pub whole : frames ≡ first ++ others
  pub decided : handled ≡ decided_all false first

-- so it is over any calls of a broker, however the octets are cut on their way
abbrev pub WrittenAreHandled : Type 0
WrittenAreHandled =
    (full : ℕ) (calls : List BrokerCall) (b : Server) (n : ℕ) (frames : List Content) → Lives full empty calls b
    → IsFed calls n frames → AreHandled frames (handled_in n calls)

-- The RECEIPTs that a client reads are the first of those that its own frames ask for, each once and in order.
abbrev pub ReceiptsWereAsked : Type 0
ReceiptsWereAsked =
    (full : ℕ) (calls : List BrokerCall) (b : Server) (n : ℕ) (wrote : List Content) (waiting carried : List ℕ)
    (frames : List Content) (held : Held) → Lives full empty calls b → IsFed calls n wrote
    → Comes (account n calls) waiting carried frames held
    → (others : List (List ℕ)) × (receipts_asked (decided_all false wrote) ≡ receipts_in frames ++ others)

-- A client that only its calls write for, behind CONNECT, asks for no subscription of mode `auto`.
abbrev pub ClientsAskForAcks : Type 0
ClientsAskForAcks =
    (full : ℕ) (calls : List BrokerCall) (b : Server) (n : ℕ) (frames : List Content) → Lives full empty calls b
    → AllByRecursion IsClients frames → IsFed calls n (connect_frame ∷ frames) → AsksForAcks calls n

-- ---- from client to client

-- A frame brings what a SEND of one of the clients brought: its destination, its own headers behind those of the
-- broker, and its body.
pub record WasSent (wrote : ℕ → List Content) (f : Content) : Type 0 where
  pub session : ℕ
  pub sent : Content
  pub among : Contains (wrote session) sent
  pub command : sent.command ≡ Send
  pub destination : value_of (codes "destination") f.headers ≡ Some (text_of sent (codes "destination"))
  pub leading : List Header
  pub headers : f.headers ≡ leading ++ own_headers sent
  pub body : f.body ≡ sent.body

-- Where each session is fed what a client wrote, each MESSAGE that is read by one brings what one of them sent.
abbrev pub ReadMessagesWereSent : Type 0
ReadMessagesWereSent =
    (full : ℕ) (calls : List BrokerCall) (b : Server) (n : ℕ) (wrote : ℕ → List Content) (waiting carried : List ℕ)
    (frames : List Content) (held : Held) → Lives full empty calls b → ((m : ℕ) → IsFed calls m (wrote m))
    → Comes (account n calls) waiting carried frames held → (f : Content) → Contains frames f → f.command ≡ Message
    → WasSent wrote f
