-- Examples: what is told of answers, and what becomes of the connection behind them.
use Rattle.std.proofs.Common.{◌≡◌, ℕ, Some, None, Ok, Err, true, refl, ap, arith}
use Rattle.stomp_frame.specs.declared.fault.FrameFault.TheVariants as frame
use Rattle.stomp_client.specs.declared.fault.ClientFault.TheVariants as client
use Rattle.activities.specs.declared.handler.Refusal.TheVariants.{NotOpen}
use Rattle.endpoint.specs.declared.fault.EndFault.TheVariants.{Business, StoreFailed, Memory}
use Rattle.endpoint.proofs.Examples.{bolts, from_order}
use Rattle.relay.specs.declared.fault.RelayFault.TheVariants as relay
use Rattle.broker_core.specs.declared.fault.BrokerFault.TheVariants as broker
use Rattle.schedule_mail.specs.declared.connection.Connection.{Connection}
use Rattle.schedule_mail.specs.declared.fault.OpenFault.TheVariants as open_fault
use Rattle.reception.specs.declared.fault.ReceptionFault.TheVariants.{Frame, Client, End}
use Rattle.reception.specs.declared.taken.Taken.TheVariants as taken
use Rattle.schedule_text.specs.declared.outcome.Outcome.{Outcome}
use Rattle.schedule_text.specs.declared.outcome.Outcome.TheVariants as told
use Rattle.schedule_service.specs.Outcomes.{fault_told, end_told, commit_told, open_told, fill_told, fill_fate}
use Rattle.schedule_service.specs.Outcomes.{rise_told, decoder_told, decoder_fate}
use Rattle.schedule_service.specs.Outcomes.{fall_told, fall_fate, reception_told, reception_fate, event_told}
use Rattle.schedule_service.specs.Outcomes.{taken_told, taken_fate, drain_told}
use Rattle.schedule_service.specs.Outcomes.{drain_fate}
use Rattle.schedule_service.specs.declared.fate.ChannelFate.TheVariants.{Stays, IsCut, BothAreCut}

-- the number of a refusal
abbrev number_of : Outcome → ℕ
number_of (told.Refused n) = n
number_of _ = 0

-- two refusals with other numbers aren't one outcome
other_number : (m n : ℕ) → (m ≡ n → ⊥) → told.Refused m ≡ told.Refused n → ⊥
other_number m n other same = other (ap number_of same)

-- ---- the endpoint

-- a fault is told by its number, and a refusal as business by its reason alone
faults_are_told : (fault_told StoreFailed ≡ told.Refused 63) × (fault_told (Business NotOpen) ≡ told.NotDone NotOpen)
    × (fault_told StoreFailed ≡ told.Refused 64 → ⊥) × (fault_told (Business NotOpen) ≡ told.Refused 61 → ⊥)
faults_are_told = (refl, refl, other_number 63 64 (λ e. omega (arith, e)), λ h. absurd (cc))

-- an Ok is told as it is asked for, and a fault as ever; a command that was taken in is told with its position
answers_are_told : (end_told told.Sent (Ok 7) ≡ told.Sent 7) × (end_told told.Sent (Err Memory) ≡ told.Refused 64)
    × (commit_told (Ok (record { pos = 3 })) ≡ told.Committed 3)
    × (commit_told (Err (Business NotOpen)) ≡ told.NotDone NotOpen)
    × (end_told told.Sent (Ok 7) ≡ told.Carried 7 → ⊥) × (commit_told (Err StoreFailed) ≡ told.Committed 63 → ⊥)
answers_are_told = (refl, refl, refl, refl, λ h. absurd (cc), λ h. absurd (cc))

-- ---- the connection

-- a connection was opened, or the number of the fault is told: of the client or of the broker
openings_are_told : (c : Connection) → (open_told (Ok c) ≡ told.Opened)
    × (open_told (Err (open_fault.Client client.Memory)) ≡ told.Refused 44)
    × (open_told (Err (open_fault.Broker broker.TooMany)) ≡ told.Refused 36)
    × (open_told (Ok c) ≡ told.Already → ⊥) × (open_told (Err (open_fault.Broker broker.TooMany)) ≡ told.Opened → ⊥)
openings_are_told c = (refl, refl, refl, λ h. absurd (cc), λ h. absurd (cc))

-- rows were sent, or the fault is told; only where the store failed both connections are cut
fillings_are_told : (fill_told (Ok 5) ≡ told.Sent 5) × (fill_told (Err (relay.Endpoint StoreFailed)) ≡ told.Refused 63)
    × (fill_told (Err (relay.Client client.Closed)) ≡ told.Refused 43)
    × (fill_fate (Err (relay.Endpoint StoreFailed)) ≡ BothAreCut) × (fill_fate (Err (relay.Endpoint Memory)) ≡ Stays)
    × (fill_fate (Err (relay.Client client.Closed)) ≡ Stays) × (fill_fate (Ok 5) ≡ Stays)
    × (fill_told (Err (relay.Client client.Closed)) ≡ told.Refused 44 → ⊥)
    × (fill_fate (Err (relay.Endpoint StoreFailed)) ≡ IsCut → ⊥)
fillings_are_told =
    (refl, refl, refl, refl, refl, refl, refl, other_number 43 44 (λ e. omega (arith, e)), λ h. absurd (cc))

-- octets went up, or the broker's number is told
rises_are_told : (rise_told (Ok 12) ≡ told.Carried 12) × (rise_told (Err (broker.Memory true)) ≡ told.Refused 34)
    × (rise_told (Ok 12) ≡ told.Sent 12 → ⊥) × (rise_told (Err broker.NoSession) ≡ told.Refused 34 → ⊥)
rises_are_told = (refl, refl, λ h. absurd (cc), other_number 37 34 (λ e. omega (arith, e)))

-- a decoder without memory is told by the client's number, and the connection stays; octets at fault have their own,
-- and it is cut
decoders_are_told : (decoder_told frame.Memory ≡ told.Refused 44) × (decoder_told frame.BadLine ≡ told.Refused 3)
    × (decoder_fate frame.Memory ≡ Stays) × (decoder_fate frame.BadLine ≡ IsCut)
    × (decoder_told frame.Memory ≡ told.Refused 1 → ⊥) × (decoder_fate frame.Failed ≡ Stays → ⊥)
decoders_are_told = (refl, refl, refl, refl, other_number 44 1 (λ e. omega (arith, e)), λ h. absurd (cc))

-- so are octets that go down
falls_are_told : (fall_told (Ok 9) ≡ told.Carried 9) × (fall_told (Err frame.Memory) ≡ told.Refused 44)
    × (fall_told (Err frame.Failed) ≡ told.Refused 12)
    × (fall_fate (Ok 9) ≡ Stays) × (fall_fate (Err frame.Memory) ≡ Stays) × (fall_fate (Err frame.Failed) ≡ IsCut)
    × (fall_told (Err frame.Failed) ≡ told.Refused 44 → ⊥) × (fall_fate (Ok 9) ≡ IsCut → ⊥)
falls_are_told = (refl, refl, refl, refl, refl, refl, other_number 12 44 (λ e. omega (arith, e)), λ h. absurd (cc))

-- ---- frames that came

-- why a frame wasn't taken: by the number of the cause, and a refusal as business by its reason
receptions_are_told : (reception_told (End StoreFailed) ≡ told.Refused 63)
    × (reception_told (End (Business NotOpen)) ≡ told.NotDone NotOpen)
    × (reception_told (Client client.Unexpected) ≡ told.Refused 42)
    × (reception_told (Frame frame.BadLine) ≡ told.Refused 3)
    × (reception_told (End (Business NotOpen)) ≡ told.Refused 61 → ⊥)
    × (reception_told (Client client.Unexpected) ≡ told.Refused 43 → ⊥)
receptions_are_told = (refl, refl, refl, refl, λ h. absurd (cc), other_number 42 43 (λ e. omega (arith, e)))

-- what no server may send cuts the connection, a store that failed both, and any other fault none
receptions_have_fates : (reception_fate (Client client.Unexpected) ≡ IsCut)
    × (reception_fate (End StoreFailed) ≡ BothAreCut)
    × (reception_fate (Client client.Memory) ≡ Stays) × (reception_fate (End Memory) ≡ Stays)
    × (reception_fate (Client client.Unexpected) ≡ BothAreCut → ⊥)
    × (reception_fate (End (Business NotOpen)) ≡ IsCut → ⊥)
receptions_have_fates = (refl, refl, refl, refl, λ h. absurd (cc), λ h. absurd (cc))

-- what became of a frame is told by its own word; the number of a repeated letter isn't told
events_are_told : (event_told taken.Connected ≡ told.Connected) × (event_told (taken.Receipt 4) ≡ told.Receipt 4)
    × (event_told (taken.Handled 2) ≡ told.Handled 2) × (event_told (taken.Repeated 2) ≡ told.Repeated)
    × (event_told taken.Held ≡ told.Held) × (event_told (taken.Settled 6) ≡ told.Settled 6)
    × (event_told (taken.Handled 2) ≡ told.Settled 2 → ⊥) × (event_told (taken.Repeated 2) ≡ told.Held → ⊥)
events_are_told = (refl, refl, refl, refl, refl, refl, λ h. absurd (cc), λ h. absurd (cc))

-- so is what was taken, or why not; behind a fault its fate, and behind what was taken none
takings_are_told : (taken_told (Ok (taken.Handled 2)) ≡ told.Handled 2)
    × (taken_told (Err (End Memory)) ≡ told.Refused 64)
    × (taken_fate (Ok (taken.Handled 2)) ≡ Stays) × (taken_fate (Ok taken.Connected) ≡ Stays)
    × (taken_fate (Err (Client client.Unexpected)) ≡ IsCut) × (taken_fate (Err (End StoreFailed)) ≡ BothAreCut)
    × (taken_told (Ok taken.Held) ≡ told.Repeated → ⊥) × (taken_fate (Ok taken.Held) ≡ IsCut → ⊥)
takings_are_told = (refl, refl, refl, refl, refl, refl, λ h. absurd (cc), λ h. absurd (cc))

-- ---- held letters

-- the pair and the number of the letter are told; where none was next, that; only a store that failed cuts, and both
drains_are_told : (drain_told (Ok (Some (record { pair = from_order bolts; number = 2 })))
    ≡ told.Drained (from_order bolts) 2)
    × (drain_told (Ok None) ≡ told.Idle) × (drain_told (Err (End (Business NotOpen))) ≡ told.NotDone NotOpen)
    × (drain_fate (Ok None) ≡ Stays) × (drain_fate (Err (End StoreFailed)) ≡ BothAreCut)
    × (drain_fate (Err (End Memory)) ≡ Stays)
    × (drain_told (Ok None) ≡ told.Absent → ⊥) × (drain_fate (Err (End StoreFailed)) ≡ IsCut → ⊥)
drains_are_told = (refl, refl, refl, refl, refl, refl, λ h. absurd (cc), λ h. absurd (cc))
