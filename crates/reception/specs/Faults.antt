-- The numbers of the faults, and after which of them a frame still waits.
use Rattle.std.specs.Prelude.{ℕ, Bool, true, false, Option, Some, None, Result, Ok, Err, if◌then◌else◌, ⊤}
use Rattle.stomp_frame.specs.Frames.{Content}
use Rattle.stomp_frame.specs.FaultNames.{frame_fault_number}
use Rattle.stomp_client.specs.Fault.{client_fault_number}
use Rattle.stomp_client.specs.declared.fault.ClientFault.TheVariants as client
use Rattle.envelope.specs.Fault.{fault_number}
use Rattle.envelope.specs.declared.fault.EnvelopeFault.TheVariants as envelope
use Rattle.endpoint.specs.Faults.{end_fault_number}
use Rattle.reception.specs.declared.fault.ReceptionFault.{ReceptionFault}
use Rattle.reception.specs.declared.fault.Untaken.{Untaken}
use Rattle.reception.specs.declared.taken.Taken.{Taken}
use Rattle.reception.specs.declared.fault.ReceptionFault.TheVariants.{Frame, Client, Envelope, End}

-- a fault's number: that of its cause
abbrev pub reception_fault_number : ReceptionFault → ℕ
reception_fault_number (Frame cause) = frame_fault_number cause
reception_fault_number (Client cause) = client_fault_number cause
reception_fault_number (Envelope cause) = fault_number cause
reception_fault_number (End cause) = end_fault_number cause

-- memory was refused on this side of the endpoint
abbrev pub IsWant : ReceptionFault → Type 0
IsWant (Client client.Memory) = ⊤
IsWant (Envelope envelope.Memory) = ⊤
IsWant _ = ⊥

-- for want of memory or of numbers on this side of the endpoint nothing is answered, and the frame still waits
abbrev pub leaves_waiting : ReceptionFault → Bool
leaves_waiting (Client client.Memory) = true
leaves_waiting (Client client.NumbersUsed) = true
leaves_waiting (Envelope envelope.Memory) = true
leaves_waiting _ = false

-- the frame that still waits after a fault
abbrev pub waiting_after : ReceptionFault → Content → Option Content
waiting_after fault f = if leaves_waiting fault then Some f else None

-- what is told of a frame, whether it still waits or not
abbrev pub taken_or : Result Taken Untaken → Result Taken ReceptionFault
taken_or (Ok taken) = Ok taken
taken_or (Err untaken) = Err untaken.fault
