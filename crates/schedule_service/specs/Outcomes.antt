-- What is told of each answer, and what becomes of the connection.
use Rattle.std.specs.Prelude.{ℕ, Option, Some, None, Result, Ok, Err}
use Rattle.stomp_frame.specs.FaultNames.{frame_fault_number}
use Rattle.stomp_frame.specs.declared.fault.FrameFault.{FrameFault}
use Rattle.stomp_frame.specs.declared.fault.FrameFault.TheVariants.{Memory}
use Rattle.stomp_client.specs.declared.fault.ClientFault.TheVariants.{Unexpected}
use Rattle.endpoint.specs.Faults.{end_fault_number}
use Rattle.endpoint.specs.declared.answer.Committed.{Committed}
use Rattle.endpoint.specs.declared.fault.EndFault.{EndFault}
use Rattle.endpoint.specs.declared.fault.EndFault.TheVariants.{Business, StoreFailed}
use Rattle.relay.specs.Fault.{relay_fault_number}
use Rattle.relay.specs.declared.fault.RelayFault.{RelayFault}
use Rattle.relay.specs.declared.fault.RelayFault.TheVariants.{Endpoint}
use Rattle.broker_core.specs.Faults.{broker_fault_number}
use Rattle.broker_core.specs.declared.fault.BrokerFault.{BrokerFault}
use Rattle.schedule_mail.specs.Faults.{open_fault_number}
use Rattle.schedule_mail.specs.declared.connection.Connection.{Connection}
use Rattle.schedule_mail.specs.declared.fault.OpenFault.{OpenFault}
use Rattle.reception.specs.Faults.{reception_fault_number}
use Rattle.reception.specs.declared.fault.ReceptionFault.{ReceptionFault}
use Rattle.reception.specs.declared.fault.ReceptionFault.TheVariants.{Client, End}
use Rattle.reception.specs.declared.taken.Drained.{Drained}
use Rattle.reception.specs.declared.taken.Taken.{Taken}
use Rattle.reception.specs.declared.taken.Taken.TheVariants as taken
use Rattle.schedule_text.specs.declared.outcome.Outcome.{Outcome}
use Rattle.schedule_text.specs.declared.outcome.Outcome.TheVariants as told
use Rattle.schedule_service.specs.declared.fate.ChannelFate.{ChannelFate}
use Rattle.schedule_service.specs.declared.fate.ChannelFate.TheVariants.{Stays, IsCut, BothAreCut}

-- a fault of the endpoint: a refusal as business has its own
abbrev pub fault_told : EndFault → Outcome
fault_told (Business refusal) = told.NotDone refusal
fault_told fault = told.Refused (end_fault_number fault)

-- an answer of the endpoint, by what is told of an Ok
abbrev pub end_told : {R : Type 0} → (R → Outcome) → Result R EndFault → Outcome
end_told tell (Ok r) = tell r
end_told tell (Err fault) = fault_told fault

-- a command
abbrev pub commit_told : Result Committed EndFault → Outcome
commit_told r = end_told (λ c. told.Committed c.pos) r

-- the opening of a connection
abbrev pub open_told : Result Connection OpenFault → Outcome
open_told (Ok c) = told.Opened
open_told (Err fault) = told.Refused (open_fault_number fault)

-- a filling, and its end for the connections
abbrev pub fill_told : Result ℕ RelayFault → Outcome
fill_told (Ok count) = told.Sent count
fill_told (Err (Endpoint fault)) = fault_told fault
fill_told (Err fault) = told.Refused (relay_fault_number fault)

abbrev pub fill_fate : Result ℕ RelayFault → ChannelFate
fill_fate (Err (Endpoint StoreFailed)) = BothAreCut
fill_fate _ = Stays

-- octets that went up
abbrev pub rise_told : Result ℕ BrokerFault → Outcome
rise_told (Ok count) = told.Carried count
rise_told (Err fault) = told.Refused (broker_fault_number fault)

-- A decoder's fault; its want of memory is told as the client's. Behind any other fault the connection is cut.
abbrev pub decoder_told : FrameFault → Outcome
decoder_told Memory = told.Refused 44
decoder_told fault = told.Refused (frame_fault_number fault)

abbrev pub decoder_fate : FrameFault → ChannelFate
decoder_fate Memory = Stays
decoder_fate _ = IsCut

-- octets that went down
abbrev pub fall_told : Result ℕ FrameFault → Outcome
fall_told (Ok count) = told.Carried count
fall_told (Err fault) = decoder_told fault

abbrev pub fall_fate : Result ℕ FrameFault → ChannelFate
fall_fate (Ok _) = Stays
fall_fate (Err fault) = decoder_fate fault

-- why a frame wasn't taken, or a held letter not handled
abbrev pub reception_told : ReceptionFault → Outcome
reception_told (End fault) = fault_told fault
reception_told fault = told.Refused (reception_fault_number fault)

-- Behind a frame that no server may send the connection is cut, and behind a failure of the store both are.
abbrev pub reception_fate : ReceptionFault → ChannelFate
reception_fate (Client Unexpected) = IsCut
reception_fate (End StoreFailed) = BothAreCut
reception_fate _ = Stays

-- what became of a frame
abbrev pub event_told : Taken → Outcome
event_told taken.Connected = told.Connected
event_told (taken.Receipt number) = told.Receipt number
event_told (taken.Handled position) = told.Handled position
event_told (taken.Repeated number) = told.Repeated
event_told taken.Held = told.Held
event_told (taken.Settled mark) = told.Settled mark
event_told (taken.Error text) = told.Error text

abbrev pub taken_told : Result Taken ReceptionFault → Outcome
taken_told (Ok event) = event_told event
taken_told (Err fault) = reception_told fault

-- behind an ERROR the connection is cut, too
abbrev pub taken_fate : Result Taken ReceptionFault → ChannelFate
taken_fate (Ok (taken.Error text)) = IsCut
taken_fate (Ok _) = Stays
taken_fate (Err fault) = reception_fate fault

-- held letters
abbrev pub drain_told : Result (Option Drained) ReceptionFault → Outcome
drain_told (Ok (Some drained)) = told.Drained drained.pair drained.number
drain_told (Ok None) = told.Idle
drain_told (Err fault) = reception_told fault

abbrev pub drain_fate : Result (Option Drained) ReceptionFault → ChannelFate
drain_fate (Err (End StoreFailed)) = BothAreCut
drain_fate _ = Stays
