-- The numbers of the faults.
use Rattle.std.specs.Prelude.{ℕ}
use Rattle.stomp_client.specs.Fault.{client_fault_number}
use Rattle.envelope.specs.Fault.{fault_number}
use Rattle.endpoint.specs.Faults.{end_fault_number}
use Rattle.relay.specs.declared.fault.RelayFault.{RelayFault}
use Rattle.relay.specs.declared.fault.RelayFault.TheVariants.{Client, Envelope, Endpoint}

-- a fault's number: that of its cause
abbrev pub relay_fault_number : RelayFault → ℕ
relay_fault_number (Client cause) = client_fault_number cause
relay_fault_number (Envelope cause) = fault_number cause
relay_fault_number (Endpoint cause) = end_fault_number cause
