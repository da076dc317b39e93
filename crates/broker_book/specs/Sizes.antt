-- What messages and actions are counted as.
use Rattle.std.specs.Prelude.{ℕ, ◌+◌, List, length}
use Rattle.std.specs.List.{sum_by}
use Rattle.stomp_frame.specs.Frames.{Header}
use Rattle.broker_book.specs.declared.sizes.TheConstants.{ACTION_OVERHEAD, MESSAGE_OVERHEAD}
use Rattle.broker_book.specs.declared.parts.Sent.{Sent}
use Rattle.broker_book.specs.declared.parts.Action.{Action}
use Rattle.broker_book.specs.declared.parts.Action.TheVariants.{Put, Ack, Nack}
use Rattle.broker_book.specs.Books.{QueuedMessage}

-- the octets of a header: its name and its value
abbrev pub header_octets : Header → ℕ
header_octets h = length h.name + length h.value

-- what a message of these contents is counted as: its octets, and what keeping it takes
abbrev pub sent_octets : Sent → ℕ
sent_octets s = MESSAGE_OVERHEAD + length s.destination + sum_by header_octets s.headers + length s.body

-- what messages are counted as together
abbrev pub held_octets : List QueuedMessage → ℕ
held_octets messages = sum_by (λ m. sent_octets m.sent) messages

-- what an action is counted as: a SEND as its message, and what keeping it takes
abbrev pub action_octets : Action → ℕ
action_octets (Put sent) = ACTION_OVERHEAD + sent_octets sent
action_octets (Ack number) = ACTION_OVERHEAD
action_octets (Nack number) = ACTION_OVERHEAD
