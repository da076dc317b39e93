-- The frames that a server writes.
use Rattle.std.specs.Prelude.{◌≡◌, ℕ, ◌<◌, ◌≤◌, ◌^◌, false, true, ◌==◌, if◌then◌else◌, List, [], ◌∷◌, ◌++◌, length}
use Rattle.std.specs.Prelude.{codes, Option, Some}
use Rattle.std.specs.Prelude.{None, Result, Ok, Err}
use Rattle.std.specs.List.{AllByRecursion}
use Rattle.std.specs.Fmt.{decimal}
use Rattle.std.specs.Str.{is_utf8}
use Rattle.base.specs.declared.limits.TheConstants.{MAX_BODY, MAX_ECHOED, MAX_OWN_HEADERS}
use Rattle.stomp_frame.specs.declared.command.Command.TheVariants.{Connected, Message, Receipt, Error}
use Rattle.stomp_frame.specs.Frames.{Header, Content, header, frame, has, IsOwn, canonical}
use Rattle.stomp_session.specs.declared.fault.SessionFault.{SessionFault}
use Rattle.stomp_session.specs.declared.fault.SessionFault.TheVariants.{Memory}
use Rattle.stomp_session.specs.Headers.{is_long}
use Rattle.stomp_session.specs.Requests.{opens, receipt_in}

-- ---- CONNECTED and RECEIPT

-- the answer to CONNECT and STOMP
abbrev pub connected_frame : Content
connected_frame =
    frame Connected (header (codes "version") (codes "1.2") ∷ header (codes "heart-beat") (codes "0,0") ∷ []) []

-- the answer to a frame that asks for a receipt
abbrev pub receipt_frame : List ℕ → Content
receipt_frame receipt = frame Receipt (header (codes "receipt-id") receipt ∷ []) []

-- ---- ERROR

-- a fault's number, a space and its name
abbrev pub error_message : ℕ → List ℕ → List ℕ
error_message number name = decimal number ++ 32 ∷ name

-- a value of at most 128 octets, and no longer one
abbrev pub unless_long : Option (List ℕ) → Option (List ℕ)
unless_long value = if is_long value then None else value

-- the receipt that an ERROR about a frame names: it is left out where it is too long, and CONNECT and STOMP ask for
-- none
abbrev pub receipt_told : Content → Option (List ℕ)
receipt_told f = if opens f.command then None else unless_long (receipt_in f)

-- 23 alone tells the version that would do
abbrev pub version_headers : ℕ → List Header
version_headers number = if number == 23 then header (codes "version") (codes "1.2") ∷ [] else []

-- the receipt that is told, if one is
abbrev pub receipt_headers : Option (List ℕ) → List Header
receipt_headers None = []
receipt_headers (Some receipt) = header (codes "receipt-id") receipt ∷ []

-- the headers of an ERROR
abbrev pub error_headers : ℕ → List ℕ → Option (List ℕ) → List Header
error_headers number name receipt =
    version_headers number ++ header (codes "message") (error_message number name) ∷ receipt_headers receipt

-- the refusal of a frame, by the fault's number and name
abbrev pub error_frame : ℕ → List ℕ → Option (List ℕ) → Content
error_frame number name receipt = frame Error (error_headers number name receipt) []

-- ---- MESSAGE

-- a message that is handed to a subscription: its number, and for other acknowledge modes than `auto` that of the
-- delivery
pub record Delivered : Type 0 where
  pub destination : List ℕ
  pub number : ℕ
  pub subscription : List ℕ
  pub ack : Option ℕ
  pub headers : List Header
  pub body : List ℕ

-- the number of the delivery, if it has one
abbrev pub ack_headers : Option ℕ → List Header
ack_headers None = []
ack_headers (Some number) = header (codes "ack") (decimal number) ∷ []

-- what stands before the headers that were taken over from the SEND
abbrev pub leading_headers : Delivered → List Header
leading_headers d = header (codes "destination") d.destination ∷ header (codes "message-id") (decimal d.number)
    ∷ header (codes "subscription") d.subscription ∷ ack_headers d.ack

-- the delivery of a message
abbrev pub message_frame : Delivered → Content
message_frame d = frame Message (leading_headers d ++ d.headers) d.body

-- ---- what writing answers

-- The frame's canonical text stands behind what was there; or memory was refused, and nothing was appended.
abbrev pub Writes : Content → List ℕ → List ℕ → Result (Unit {0}) SessionFault → Type 0
Writes f old new (Ok _) = new ≡ old ++ canonical f
Writes f old new (Err fault) = (fault ≡ Memory) × (new ≡ old)

-- ---- what fits

-- a value that a server echoes: UTF-8 of at most 128 octets, without NUL
pub record IsEchoed (value : List ℕ) : Type 0 where
  pub plain : has 0 value ≡ false
  pub utf8 : is_utf8 value ≡ true
  pub short : length value ≤ MAX_ECHOED

-- the same of a value that may be missing
abbrev pub IsEchoedIfAny : Option (List ℕ) → Type 0
IsEchoedIfAny None = Unit {0}
IsEchoedIfAny (Some value) = IsEchoed value

-- a number that a server gives
abbrev pub IsGiven : ℕ → Type 0
IsGiven number = number < 2 ^ 64

-- the same of a number that may be missing
abbrev pub IsGivenIfAny : Option ℕ → Type 0
IsGivenIfAny None = Unit {0}
IsGivenIfAny (Some number) = IsGiven number

-- what a SEND brings that a MESSAGE can carry
pub record IsCarried (to : List ℕ) (own : List Header) (octets : List ℕ) : Type 0 where
  pub destination : IsOwn Message (header (codes "destination") to)
  pub headers : AllByRecursion (IsOwn Message) own
  pub count : length own ≤ MAX_OWN_HEADERS
  pub body : length octets ≤ MAX_BODY

-- a delivery that a MESSAGE can tell
pub record IsTold (d : Delivered) : Type 0 where
  pub carried : IsCarried d.destination d.headers d.body
  pub subscription : IsEchoed d.subscription
  pub number : IsGiven d.number
  pub ack : IsGivenIfAny d.ack
