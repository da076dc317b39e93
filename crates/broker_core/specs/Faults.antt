-- The numbers and names of the refusals.
use Rattle.std.specs.Prelude.{ℕ, List, codes}
use Rattle.stomp_session.specs.Faults.{session_fault_number, session_fault_name}
use Rattle.broker_core.specs.declared.fault.FrameRefusal.{FrameRefusal}
use Rattle.broker_core.specs.declared.fault.FrameRefusal.TheVariants.{BadFrame, Unaccepted, BadDestination}
use Rattle.broker_core.specs.declared.fault.FrameRefusal.TheVariants.{SubscriptionExists}
use Rattle.broker_core.specs.declared.fault.FrameRefusal.TheVariants.{NoSubscription}
use Rattle.broker_core.specs.declared.fault.FrameRefusal.TheVariants.{BadAckMode, TransactionExists, NoTransaction}
use Rattle.broker_core.specs.declared.fault.FrameRefusal.TheVariants.{NoSuchAck, QueueFull}
use Rattle.broker_core.specs.declared.fault.FrameRefusal.TheVariants.{TooMany}
use Rattle.broker_core.specs.declared.fault.BrokerFault.{BrokerFault}
use Rattle.broker_core.specs.declared.fault.BrokerFault.TheVariants.{Memory, NoSession, TooMany as NoNumber}

-- a refusal's number
abbrev pub refusal_number : FrameRefusal → ℕ
refusal_number BadFrame = 20
refusal_number (Unaccepted fault) = session_fault_number fault
refusal_number BadDestination = 25
refusal_number SubscriptionExists = 26
refusal_number NoSubscription = 27
refusal_number BadAckMode = 28
refusal_number TransactionExists = 29
refusal_number NoTransaction = 30
refusal_number NoSuchAck = 31
refusal_number QueueFull = 32
refusal_number TooMany = 36

-- a refusal's name, as an ERROR tells it behind the number
abbrev pub refusal_name : FrameRefusal → List ℕ
refusal_name BadFrame = codes "BadFrame"
refusal_name (Unaccepted fault) = session_fault_name fault
refusal_name BadDestination = codes "BadDestination"
refusal_name SubscriptionExists = codes "SubscriptionExists"
refusal_name NoSubscription = codes "NoSubscription"
refusal_name BadAckMode = codes "BadAckMode"
refusal_name TransactionExists = codes "TransactionExists"
refusal_name NoTransaction = codes "NoTransaction"
refusal_name NoSuchAck = codes "NoSuchAck"
refusal_name QueueFull = codes "QueueFull"
refusal_name TooMany = codes "TooMany"

-- the number of a fault of a broker's call
abbrev pub broker_fault_number : BrokerFault → ℕ
broker_fault_number (Memory took) = 34
broker_fault_number NoNumber = 36
broker_fault_number NoSession = 37
