-- The frames that a client writes.
use Rattle.std.specs.Prelude.{◌≡◌, ◌⊎◌, ℕ, ◌<◌, ◌≤◌, false, List, [], ◌∷◌, length, codes, Option, Some, None}
use Rattle.std.specs.Prelude.{Result, Ok, Err}
use Rattle.std.specs.Fmt.{decimal}
use Rattle.base.specs.declared.limits.TheConstants.{MAX_HEADERS}
use Rattle.stomp_frame.specs.declared.command.Command.{Command}
use Rattle.stomp_frame.specs.declared.command.Command.TheVariants.{Connect, Send, Subscribe, Disconnect}
use Rattle.stomp_frame.specs.declared.fault.FrameFault.{FrameFault}
use Rattle.stomp_frame.specs.declared.fault.FrameFault.TheVariants.{Memory}
use Rattle.stomp_frame.specs.Building.{header_refused}
use Rattle.stomp_frame.specs.FaultTable.{or_fault}
use Rattle.stomp_frame.specs.Frames.{Content, header, frame, has, value_of, with_header}

-- a value of at most 128 octets without NUL
pub record IsShort (value : List ℕ) : Type 0 where
  pub plain : has 0 value ≡ false
  pub short : length value ≤ 128

-- CONNECT
abbrev pub connect_frame : Content
connect_frame =
    frame Connect (header (codes "accept-version") (codes "1.2") ∷ header (codes "host") (codes "outbox") ∷ []) []

-- the frame with one more header, where a value is given
abbrev pub with_given : (name : List ℕ) → Option (List ℕ) → Content → Content
with_given name None f = f
with_given name (Some value) f = with_header f (header name value)

-- why the frame doesn't take that header
abbrev pub given_refused : (name : List ℕ) → Option (List ℕ) → Content → Option FrameFault
given_refused name None f = None
given_refused name (Some value) f = header_refused f (header name value)

-- a login and a passcode are told, where they are given
abbrev pub with_login : (login passcode : Option (List ℕ)) → Content → Content
with_login login passcode f = with_given (codes "passcode") passcode (with_given (codes "login") login f)

-- why they can't be
abbrev pub login_refused : (login passcode : Option (List ℕ)) → Content → Option FrameFault
login_refused login passcode f =
    or_fault (given_refused (codes "login") login f)
    (given_refused (codes "passcode") passcode (with_given (codes "login") login f))

-- CONNECT that names a host of the broker
abbrev pub connect_start : Content
connect_start = frame Connect (header (codes "accept-version") (codes "1.2") ∷ []) []

abbrev pub connect_host : List ℕ → Content
connect_host host = with_header connect_start (header (codes "host") host)

-- CONNECT to a host, with a login and a passcode where they are given
abbrev pub connect_frame_to : (host : List ℕ) → (login passcode : Option (List ℕ)) → Content
connect_frame_to host login passcode = with_login login passcode (connect_host host)

-- why there is no such CONNECT: the first of its headers that is refused
abbrev pub connect_refused : (host : List ℕ) → (login passcode : Option (List ℕ)) → Option FrameFault
connect_refused host login passcode =
    or_fault (header_refused connect_start (header (codes "host") host))
    (login_refused login passcode (connect_host host))

-- it's made where nothing is refused; else the refusal is told, or want of memory, which comes at any time
abbrev pub IsMadeUnless : (refusal : Option FrameFault) → Content → Result Content FrameFault → Type 0
IsMadeUnless refusal f (Ok g) = (refusal ≡ None) × (g ≡ f)
IsMadeUnless refusal f (Err fault) = (fault ≡ Memory) ⊎ (refusal ≡ Some fault)

-- SUBSCRIBE to a destination, under the id 0
abbrev pub subscribe_frame : List ℕ → Content
subscribe_frame destination =
    frame Subscribe
    (header (codes "id") (codes "0") ∷ header (codes "destination") destination ∷ header (codes "ack")
    (codes "client-individual") ∷ [])
    []

-- the same, which asks a broker to hand out so many messages at most that aren't answered: by the names that this has
-- at ActiveMQ and at RabbitMQ
abbrev pub subscribe_frame_with : (destination : List ℕ) → (prefetch : ℕ) → Content
subscribe_frame_with destination prefetch =
    with_header (with_header (subscribe_frame destination)
    (header (codes "activemq.prefetchSize") (decimal prefetch)))
    (header (codes "prefetch-count") (decimal prefetch))

-- DISCONNECT
abbrev pub disconnect_frame : Content
disconnect_frame = frame Disconnect [] []

-- BEGIN, COMMIT or ABORT of a transaction
abbrev pub transaction_frame : Command → ℕ → Content
transaction_frame command number = frame command (header (codes "transaction") (decimal number) ∷ []) []

-- the frame in a transaction, where there is one
abbrev pub in_transaction : Option ℕ → Content → Content
in_transaction None f = f
in_transaction (Some number) f = with_header f (header (codes "transaction") (decimal number))

-- a text, or none
abbrev pub text_or_empty : Option (List ℕ) → List ℕ
text_or_empty None = []
text_or_empty (Some text) = text

-- ACK or NACK of a MESSAGE: it has the MESSAGE's ack as its id
abbrev pub answer_frame : Command → Content → Option ℕ → Content
answer_frame command message transaction =
    in_transaction transaction (frame command (header (codes "id") (text_or_empty
    (value_of (codes "ack") message.headers)) ∷ []) [])

-- the frame with the number of a receipt
abbrev pub with_receipt : ℕ → Content → Content
with_receipt number f = with_header f (header (codes "receipt") (decimal number))

-- a SEND to which a receipt or a transaction can be added: it has neither, and room for one
pub record IsPlain (f : Content) : Type 0 where
  pub command : f.command ≡ Send
  pub room : length f.headers < MAX_HEADERS
  pub receipt : value_of (codes "receipt") f.headers ≡ None
  pub transaction : value_of (codes "transaction") f.headers ≡ None
