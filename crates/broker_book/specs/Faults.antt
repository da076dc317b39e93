-- The numbers and names of the faults.
use Rattle.std.specs.Prelude.{ℕ, List, codes}
use Rattle.broker_book.specs.declared.fault.QueueFault.{QueueFault}
use Rattle.broker_book.specs.declared.fault.QueueFault.TheVariants.{NoSuchAck, QueueFull, Memory, TooMany}

-- a fault's number
abbrev pub queue_fault_number : QueueFault → ℕ
queue_fault_number NoSuchAck = 31
queue_fault_number QueueFull = 32
queue_fault_number Memory = 34
queue_fault_number TooMany = 36

-- a fault's name, as an ERROR tells it behind the number
abbrev pub queue_fault_name : QueueFault → List ℕ
queue_fault_name NoSuchAck = codes "NoSuchAck"
queue_fault_name QueueFull = codes "QueueFull"
queue_fault_name Memory = codes "Memory"
queue_fault_name TooMany = codes "TooMany"
