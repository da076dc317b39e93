-- What a server's session makes of what a client writes.
use Rattle.std.specs.Prelude.{◌≡◌, ℕ, ◌≤◌, Bool, false, ◌||◌, is_ok, List, [], ◌∷◌, length, codes, Option, Result}
use Rattle.base.specs.declared.limits.TheConstants.{MAX_ECHOED, MAX_OWN_HEADERS}
use Rattle.stomp_frame.specs.declared.command.Command.TheVariants.{Ack, Nack, Begin, Commit, Abort}
use Rattle.stomp_frame.specs.Frames.{Content, value_of}
use Rattle.stomp_session.specs.declared.fault.SessionFault.{SessionFault}
use Rattle.stomp_session.specs.declared.request.Request.{Request}
use Rattle.stomp_session.specs.Headers.{has_none, own_headers}
use Rattle.stomp_session.specs.Replies.{IsGiven, IsGivenIfAny}
use Rattle.stomp_session.specs.Requests.{request_of}
use Rattle.stomp_client.specs.Frames.{subscribe_frame, disconnect_frame, transaction_frame, in_transaction}
use Rattle.stomp_client.specs.Frames.{answer_frame, with_receipt}
use Rattle.stomp_client.specs.Frames.{text_or_empty, IsPlain}

-- what a session answers to frames in order, where it is connected, or not yet
abbrev pub answers_of : Bool → List Content → List (Result Request SessionFault)
answers_of connected [] = []
answers_of connected (f ∷ fs) = request_of connected f ∷ answers_of (connected || is_ok (request_of connected f)) fs

-- a SEND that has a destination and at most 28 headers of its own, to which a receipt or a transaction can be added
pub record IsTakeable (f : Content) : Type 0 where
  pub plain : IsPlain f
  pub destination : has_none f (codes "destination") ≡ false
  pub own : length (own_headers f) ≤ MAX_OWN_HEADERS

-- a MESSAGE whose `ack` isn't too long to be told again
abbrev pub IsAnswerable : Content → Type 0
IsAnswerable message = length (text_or_empty (value_of (codes "ack") message.headers)) ≤ MAX_ECHOED

-- what a client writes behind its CONNECT: the frame of one of its calls, which were given what a server takes
pub data IsClients (f : Content) : Type 0 where
  subscribes : (destination : List ℕ) → f ≡ subscribe_frame destination → IsClients f
  sends : (message : Content) (transaction : Option ℕ) → IsTakeable message → IsGivenIfAny transaction
      → f ≡ in_transaction transaction message → IsClients f
  sends_with_receipt : (message : Content) (number : ℕ) → IsTakeable message → IsGiven number
      → f ≡ with_receipt number message
      → IsClients f
  acks : (message : Content) (transaction : Option ℕ) → IsAnswerable message → IsGivenIfAny transaction
      → f ≡ answer_frame Ack message transaction → IsClients f
  nacks : (message : Content) (transaction : Option ℕ) → IsAnswerable message → IsGivenIfAny transaction
      → f ≡ answer_frame Nack message transaction → IsClients f
  begins : (number : ℕ) → IsGiven number → f ≡ transaction_frame Begin number → IsClients f
  commits : (number : ℕ) → IsGiven number → f ≡ transaction_frame Commit number → IsClients f
  aborts : (number : ℕ) → IsGiven number → f ≡ transaction_frame Abort number → IsClients f
  disconnects : f ≡ disconnect_frame → IsClients f
