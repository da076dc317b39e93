-- The numbers of the faults.
use Rattle.std.specs.Prelude.{ℕ}
use Rattle.stomp_client.specs.declared.fault.ClientFault.{ClientFault}
use Rattle.stomp_client.specs.declared.fault.ClientFault.TheVariants.{NotConnected, AlreadyConnected, Unexpected}
use Rattle.stomp_client.specs.declared.fault.ClientFault.TheVariants.{Closed, Memory}
use Rattle.stomp_client.specs.declared.fault.ClientFault.TheVariants.{NumbersUsed}

-- a fault's number
abbrev pub client_fault_number : ClientFault → ℕ
client_fault_number NotConnected = 40
client_fault_number AlreadyConnected = 41
client_fault_number Unexpected = 42
client_fault_number Closed = 43
client_fault_number Memory = 44
client_fault_number NumbersUsed = 45
