-- What a client frame asks of a server, and why one is refused before anything is done.
use Rattle.std.specs.Prelude.{◌≡◌, ℕ, Bool, true, false, not, ◌&&◌, ◌||◌, if◌then◌else◌, nat_lt, List, [], ◌∷◌, length}
use Rattle.std.specs.Prelude.{codes}
use Rattle.std.specs.Prelude.{Option, Some, None}
use Rattle.std.specs.Prelude.{Result, Ok, Err, unwrap_or}
use Rattle.std.specs.List.{list_any}
use Rattle.base.specs.declared.limits.TheConstants.{MAX_OWN_HEADERS}
use Rattle.stomp_frame.specs.declared.command.Command.{Command}
use Rattle.stomp_frame.specs.declared.command.Command.TheVariants.{Connect, Stomp, Send, Subscribe, Unsubscribe, Ack}
use Rattle.stomp_frame.specs.declared.command.Command.TheVariants.{Nack, Begin, Commit}
use Rattle.stomp_frame.specs.declared.command.Command.TheVariants.{Abort, Disconnect, Connected, Message, Receipt}
use Rattle.stomp_frame.specs.declared.command.Command.TheVariants.{Error}
use Rattle.std.specs.Str.{bytes_eq}
use Rattle.stomp_frame.specs.Frames.{Header, Content, value_of}
use Rattle.stomp_session.specs.declared.fault.SessionFault.{SessionFault}
use Rattle.stomp_session.specs.declared.fault.SessionFault.TheVariants.{NotConnected, AlreadyConnected, Version}
use Rattle.stomp_session.specs.declared.fault.SessionFault.TheVariants.{MissingHeader}
use Rattle.stomp_session.specs.declared.fault.SessionFault.TheVariants.{WrongCommand, TooLarge}
use Rattle.stomp_session.specs.declared.request.Request.{Request}
use Rattle.stomp_session.specs.declared.request.Request.TheVariants.{Connect as Connecting, Send as Sending}
use Rattle.stomp_session.specs.declared.request.Request.TheVariants.{Subscribe as Subscribing}
use Rattle.stomp_session.specs.declared.request.Request.TheVariants.{Unsubscribe as Unsubscribing, Ack as Acking}
use Rattle.stomp_session.specs.declared.request.Request.TheVariants.{Nack as Nacking}
use Rattle.stomp_session.specs.declared.request.Request.TheVariants.{Begin as Beginning, Commit as Committing}
use Rattle.stomp_session.specs.declared.request.Request.TheVariants.{Abort as Aborting}
use Rattle.stomp_session.specs.declared.request.Request.TheVariants.{Disconnect as Disconnecting}
use Rattle.stomp_session.specs.declared.request.Acknowledge.{Acknowledge}
use Rattle.stomp_session.specs.declared.request.Demarcate.{Demarcate}
use Rattle.stomp_session.specs.declared.session.Refused.{Refused}
use Rattle.stomp_session.specs.Headers.{required, echoed, has_none, has_long, is_long, text_of, own_headers, offers_version}

-- ---- refusals

-- CONNECT and STOMP open a session
abbrev pub opens : Command → Bool
opens Connect = true
opens Stomp = true
opens _ = false

-- the commands of a server
abbrev pub is_server : Command → Bool
is_server Connected = true
is_server Message = true
is_server Receipt = true
is_server Error = true
is_server _ = false

-- the command whose frames have headers of their own
abbrev pub is_send : Command → Bool
is_send Send = true
is_send _ = false

-- a header is missing that the command requires
abbrev pub lacks : Content → Bool
lacks f = list_any (has_none f) (required f.command)

-- a value that is echoed is too long, or a SEND has too many headers of its own
abbrev pub is_large : Content → Bool
is_large f =
    list_any (has_long f) (echoed f.command) || (is_send f.command && nat_lt MAX_OWN_HEADERS (length (own_headers f)))

-- why a frame is refused at once by a session that is connected, or not yet: the first that applies
abbrev pub refusal_of : Bool → Content → Option SessionFault
refusal_of connected f =
    if is_server f.command then Some WrongCommand
    else if not connected && not (opens f.command) then Some NotConnected
    else if connected && opens f.command then Some AlreadyConnected
    else if lacks f then Some MissingHeader
    else if is_large f then Some TooLarge
    else if opens f.command && not (offers_version (text_of f (codes "accept-version"))) then Some Version
    else None

-- ---- requests

-- the receipt and the transaction that a frame names
abbrev pub receipt_in : Content → Option (List ℕ)
receipt_in f = value_of (codes "receipt") f.headers

abbrev pub transaction_in : Content → Option (List ℕ)
transaction_in f = value_of (codes "transaction") f.headers

-- the answer to a delivery that an ACK or NACK gives
abbrev pub acknowledge_of : Content → Acknowledge
acknowledge_of f = record { id = text_of f (codes "id"); transaction = transaction_in f; receipt = receipt_in f }

-- the transaction that a BEGIN, COMMIT or ABORT names
abbrev pub demarcate_of : Content → Demarcate
demarcate_of f = record { transaction = text_of f (codes "transaction"); receipt = receipt_in f }

-- what a client frame of this command asks
abbrev pub asked_by : Command → Content → Request
asked_by Send f = Sending (record {
  destination = text_of f (codes "destination");
  headers = own_headers f;
  body = f.body;
  transaction = transaction_in f;
  receipt = receipt_in f;
})
asked_by Subscribe f = Subscribing (record {
  id = text_of f (codes "id");
  destination = text_of f (codes "destination");
  ack = value_of (codes "ack") f.headers;
  receipt = receipt_in f;
})
asked_by Unsubscribe f = Unsubscribing (record { id = text_of f (codes "id"); receipt = receipt_in f })
asked_by Ack f = Acking (acknowledge_of f)
asked_by Nack f = Nacking (acknowledge_of f)
asked_by Begin f = Beginning (demarcate_of f)
asked_by Commit f = Committing (demarcate_of f)
asked_by Abort f = Aborting (demarcate_of f)
asked_by Disconnect f = Disconnecting (record { receipt = receipt_in f })
asked_by _ f =
    Connecting (record { accept_version = text_of f (codes "accept-version"); host = text_of f (codes "host") })

-- what a client frame asks
abbrev pub asked : Content → Request
asked f = asked_by f.command f

-- the request of a frame, unless it is refused
abbrev pub request_unless : Option SessionFault → Content → Result Request SessionFault
request_unless None f = Ok (asked f)
request_unless (Some fault) f = Err fault

-- what a frame asks of a session that is connected, or not yet; or the first refusal
abbrev pub request_of : Bool → Content → Result Request SessionFault
request_of connected f = request_unless (refusal_of connected f) f

-- What `accept` answers: the request, and the session is connected; or the first refusal, the frame is given back, and
-- nothing has changed.
abbrev pub Accepts : Bool → Content → Bool → Result Request Refused → Type 0
Accepts connected f now (Ok request) = (request_of connected f ≡ Ok request) × (now ≡ true)
Accepts connected f now (Err refused) =
    (request_of connected f ≡ Err refused.fault) × (refused.frame ≡ f) × (now ≡ connected)

-- ---- what is read off a request

-- the acknowledge mode that a subscription asks for, `auto` where it names none
abbrev pub ack_mode : Option (List ℕ) → List ℕ
ack_mode ack = unwrap_or ack (codes "auto")

-- the receipt that a request asks for; a CONNECT asks for none
abbrev pub receipt_of : Request → Option (List ℕ)
receipt_of (Connecting c) = None
receipt_of (Sending s) = s.receipt
receipt_of (Subscribing s) = s.receipt
receipt_of (Unsubscribing u) = u.receipt
receipt_of (Acking a) = a.receipt
receipt_of (Nacking a) = a.receipt
receipt_of (Beginning d) = d.receipt
receipt_of (Committing d) = d.receipt
receipt_of (Aborting d) = d.receipt
receipt_of (Disconnecting d) = d.receipt

-- ---- an ACK of which nothing but its id is asked

-- whether a command is an ACK
abbrev pub is_ack : Command → Bool
is_ack Ack = true
is_ack _ = false

-- the value of the only header, where it is an `id` that may be echoed
abbrev pub sole_id : List Header → Option (List ℕ)
sole_id [] = None
sole_id (h ∷ []) = if bytes_eq h.name (codes "id") && not (is_long (Some h.value)) then Some h.value else None
sole_id (h ∷ i ∷ hs) = None

-- the id of an ACK that a connected session takes, which has no other header
abbrev pub sole_ack : Bool → Content → Option (List ℕ)
sole_ack connected f = if connected && is_ack f.command then sole_id f.headers else None

-- what such an ACK asks
abbrev pub acking : List ℕ → Request
acking id = Acking (record { id = id; transaction = None; receipt = None })
