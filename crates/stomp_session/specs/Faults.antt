-- The numbers and names of the faults.
use Rattle.std.specs.Prelude.{ℕ, List, codes}
use Rattle.stomp_session.specs.declared.fault.SessionFault.{SessionFault}
use Rattle.stomp_session.specs.declared.fault.SessionFault.TheVariants.{NotConnected, AlreadyConnected, Version}
use Rattle.stomp_session.specs.declared.fault.SessionFault.TheVariants.{MissingHeader}
use Rattle.stomp_session.specs.declared.fault.SessionFault.TheVariants.{WrongCommand, Memory, TooLarge}

-- a fault's number
abbrev pub session_fault_number : SessionFault → ℕ
session_fault_number NotConnected = 21
session_fault_number AlreadyConnected = 22
session_fault_number Version = 23
session_fault_number MissingHeader = 24
session_fault_number WrongCommand = 33
session_fault_number Memory = 34
session_fault_number TooLarge = 35

-- a fault's name, as an ERROR tells it behind the number
abbrev pub session_fault_name : SessionFault → List ℕ
session_fault_name NotConnected = codes "NotConnected"
session_fault_name AlreadyConnected = codes "AlreadyConnected"
session_fault_name Version = codes "Version"
session_fault_name MissingHeader = codes "MissingHeader"
session_fault_name WrongCommand = codes "WrongCommand"
session_fault_name Memory = codes "Memory"
session_fault_name TooLarge = codes "TooLarge"
