-- The frames that a client writes for what came.
use Rattle.std.specs.Prelude.{◌≡◌, ℕ, List, [], ◌∷◌, Some, None, if◌then◌else◌}
use Rattle.base.specs.Number.{is_number}
use Rattle.base.specs.declared.limits.TheConstants.{MAX_BODY}
use Rattle.base.specs.declared.pair.Pair.{Pair}
use Rattle.stomp_frame.specs.Frames.{Content}
use Rattle.stomp_frame.specs.Streams.{AreFrames, canonical_texts}
use Rattle.stomp_frame.specs.declared.command.Command.{Command}
use Rattle.stomp_frame.specs.declared.command.Command.TheVariants.{Begin, Commit, Ack, Nack}
use Rattle.stomp_client.specs.Clients.{Client, appended}
use Rattle.stomp_client.specs.Frames.{transaction_frame, answer_frame, in_transaction}
use Rattle.envelope.specs.Written.{send_of}
use Rattle.envelope.specs.declared.message.Envelope.TheVariants.{Settle}
use Rattle.endpoint.specs.declared.fault.EndFault.{EndFault}
use Rattle.endpoint.specs.declared.fault.EndFault.TheVariants.{NotMine, StoreFailed, NotSent}

-- ACK or NACK of a MESSAGE, in no transaction
abbrev pub answer : Command → Content → List Content
answer command message = answer_frame command message None ∷ []

-- in one transaction: a MESSAGE is acknowledged, and its pair is settled up to a number
abbrev pub settling : Content → (transaction : ℕ) → Pair → (number : ℕ) → List Content
settling message transaction pair number =
    transaction_frame Begin transaction
    ∷ answer_frame Ack message (Some transaction)
    ∷ in_transaction (Some transaction) (send_of (Settle pair number))
    ∷ transaction_frame Commit transaction
    ∷ []

-- what is written where the endpoint refuses what a MESSAGE carries: such a one is never taken in, or may be another
-- time; after a failure of the store it isn't known which
abbrev pub refusal : Content → EndFault → List Content
refusal message NotMine = answer Ack message
refusal message NotSent = answer Ack message
refusal message StoreFailed = []
refusal message _ = answer Nack message

-- How far a pair is settled when one of its letters comes again: as far as it was handled. A frame can tell 2^40 at
-- most; beyond it's the letter's own number.
abbrev pub settled_again : (number handled : ℕ) → ℕ
settled_again number handled = if is_number handled then handled else number

-- the octets are the canonical texts of these frames, one behind the other
pub record IsTextOf (frames : List Content) (octets : List ℕ) : Type 0 where
  pub each : AreFrames MAX_BODY frames
  pub whole : octets ≡ canonical_texts frames

-- exactly these frames were written, and nothing else has changed
pub record Writes (frames : List Content) (old new : Client ℕ) : Type 0 where
  pub each : AreFrames MAX_BODY frames
  pub all : new ≡ appended (canonical_texts frames) old
