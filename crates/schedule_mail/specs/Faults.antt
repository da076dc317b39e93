-- The numbers of a connection that isn't opened.
use Rattle.std.specs.Prelude.{ℕ}
use Rattle.broker_core.specs.Faults.{broker_fault_number}
use Rattle.stomp_client.specs.Fault.{client_fault_number}
use Rattle.schedule_mail.specs.declared.fault.OpenFault.{OpenFault}
use Rattle.schedule_mail.specs.declared.fault.OpenFault.TheVariants.{Client, Broker}

-- the number of a connection that isn't opened
abbrev pub open_fault_number : OpenFault → ℕ
open_fault_number (Client fault) = client_fault_number fault
open_fault_number (Broker fault) = broker_fault_number fault
