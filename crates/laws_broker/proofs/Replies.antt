-- What a request is answered by is a frame, and so is the ERROR of its refusal.
use Rattle.std.proofs.Common.{◌≡◌, ℕ, ◌≤◌, true, false, ltb, List, length, Option, refl, arith}
use Rattle.std.specs.Prelude.{◌==◌}
use Rattle.std.specs.List.{list_all, list_any}
use Rattle.base.specs.declared.limits.TheConstants.{MAX_BODY}
use Rattle.stomp_frame.specs.Frames.{IsFrame}
use Rattle.stomp_session.proofs.Framing.{error_is_a_frame}
use Rattle.stomp_session.proofs.Owning.{utf8}
use Rattle.stomp_session.specs.Fitting.{Fits}
use Rattle.stomp_session.specs.Replies.{IsEchoed, IsEchoedIfAny, IsGiven, error_frame}
use Rattle.stomp_session.specs.Requests.{receipt_of}
use Rattle.stomp_session.specs.declared.fault.SessionFault.TheVariants.{NotConnected, AlreadyConnected, Version}
use Rattle.stomp_session.specs.declared.fault.SessionFault.TheVariants.{MissingHeader}
use Rattle.stomp_session.specs.declared.fault.SessionFault.TheVariants.{WrongCommand, Memory, TooLarge}
use Rattle.stomp_session.specs.declared.request.Request.{Request}
use Rattle.stomp_session.specs.declared.request.Request.TheVariants.{Connect, Send, Subscribe, Unsubscribe, Ack, Nack}
use Rattle.stomp_session.specs.declared.request.Request.TheVariants.{Begin, Commit}
use Rattle.stomp_session.specs.declared.request.Request.TheVariants.{Abort, Disconnect}
use Rattle.broker_core.specs.Faults.{refusal_number, refusal_name}
use Rattle.broker_core.specs.declared.fault.FrameRefusal.{FrameRefusal}
use Rattle.broker_core.specs.declared.fault.FrameRefusal.TheVariants.{BadFrame, Unaccepted, BadDestination}
use Rattle.broker_core.specs.declared.fault.FrameRefusal.TheVariants.{SubscriptionExists}
use Rattle.broker_core.specs.declared.fault.FrameRefusal.TheVariants.{NoSubscription}
use Rattle.broker_core.specs.declared.fault.FrameRefusal.TheVariants.{BadAckMode, TransactionExists, NoTransaction}
use Rattle.broker_core.specs.declared.fault.FrameRefusal.TheVariants.{NoSuchAck, QueueFull}
use Rattle.broker_core.specs.declared.fault.FrameRefusal.TheVariants.{TooMany}

pub receipt_fits : (request : Request) → Fits request → IsEchoedIfAny (receipt_of request)
receipt_fits (Connect c) h = tt
receipt_fits (Send s) h = h.2
receipt_fits (Subscribe s) h = h.1
receipt_fits (Unsubscribe u) h = h.1
receipt_fits (Ack a) h = h.2
receipt_fits (Nack a) h = h.2
receipt_fits (Begin d) h = h.1
receipt_fits (Commit d) h = h.1
receipt_fits (Abort d) h = h.1
receipt_fits (Disconnect d) h = h

-- ---- refusals

number_fits : (r : FrameRefusal) → IsGiven (refusal_number r)
number_fits BadFrame = omega arith
number_fits (Unaccepted NotConnected) = omega arith
number_fits (Unaccepted AlreadyConnected) = omega arith
number_fits (Unaccepted Version) = omega arith
number_fits (Unaccepted MissingHeader) = omega arith
number_fits (Unaccepted WrongCommand) = omega arith
number_fits (Unaccepted Memory) = omega arith
number_fits (Unaccepted TooLarge) = omega arith
number_fits BadDestination = omega arith
number_fits SubscriptionExists = omega arith
number_fits NoSubscription = omega arith
number_fits BadAckMode = omega arith
number_fits TransactionExists = omega arith
number_fits NoTransaction = omega arith
number_fits NoSuchAck = omega arith
number_fits QueueFull = omega arith
number_fits TooMany = omega arith

-- a short name of ASCII
named : (name : List ℕ) → list_any (λ o. o == 0) name ≡ false → list_all (λ o. ltb o 128) name ≡ true
    → length name ≤ 128 → IsEchoed name
named name plain ascii short = record { plain = plain; utf8 = utf8 name ascii; short = short }

name_fits : (r : FrameRefusal) → IsEchoed (refusal_name r)
name_fits BadFrame = named (refusal_name BadFrame) refl refl (omega arith)
name_fits (Unaccepted NotConnected) = named (refusal_name (Unaccepted NotConnected)) refl refl (omega arith)
name_fits (Unaccepted AlreadyConnected) = named (refusal_name (Unaccepted AlreadyConnected)) refl refl (omega arith)
name_fits (Unaccepted Version) = named (refusal_name (Unaccepted Version)) refl refl (omega arith)
name_fits (Unaccepted MissingHeader) = named (refusal_name (Unaccepted MissingHeader)) refl refl (omega arith)
name_fits (Unaccepted WrongCommand) = named (refusal_name (Unaccepted WrongCommand)) refl refl (omega arith)
name_fits (Unaccepted Memory) = named (refusal_name (Unaccepted Memory)) refl refl (omega arith)
name_fits (Unaccepted TooLarge) = named (refusal_name (Unaccepted TooLarge)) refl refl (omega arith)
name_fits BadDestination = named (refusal_name BadDestination) refl refl (omega arith)
name_fits SubscriptionExists = named (refusal_name SubscriptionExists) refl refl (omega arith)
name_fits NoSubscription = named (refusal_name NoSubscription) refl refl (omega arith)
name_fits BadAckMode = named (refusal_name BadAckMode) refl refl (omega arith)
name_fits TransactionExists = named (refusal_name TransactionExists) refl refl (omega arith)
name_fits NoTransaction = named (refusal_name NoTransaction) refl refl (omega arith)
name_fits NoSuchAck = named (refusal_name NoSuchAck) refl refl (omega arith)
name_fits QueueFull = named (refusal_name QueueFull) refl refl (omega arith)
name_fits TooMany = named (refusal_name TooMany) refl refl (omega arith)

-- the ERROR of each refusal
pub error_fits : (r : FrameRefusal) (receipt : Option (List ℕ)) → IsEchoedIfAny receipt
    → IsFrame MAX_BODY (error_frame (refusal_number r) (refusal_name r) receipt)
error_fits r receipt h = error_is_a_frame (refusal_number r) (refusal_name r) receipt (number_fits r) (name_fits r) h
