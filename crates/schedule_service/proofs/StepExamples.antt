-- Examples: what events of a service do and tell.
use Rattle.std.proofs.Common.{◌≡◌, ℕ, Option, Some, None, Result, Ok, Err, Bool, true, false, refl, ap, arith}
use Rattle.base.specs.declared.entity.Kind.TheVariants.{Order, Stock}
use Rattle.stomp_frame.specs.Frames.{Content}
use Rattle.stomp_frame.specs.declared.fault.FrameFault.{FrameFault}
use Rattle.stomp_frame.specs.declared.fault.FrameFault.TheVariants as frame
use Rattle.stomp_client.specs.declared.fault.ClientFault.TheVariants as client
use Rattle.activities.specs.declared.input.JournalRow.{JournalRow}
use Rattle.activities.proofs.Asking.{Asked, both}
use Rattle.keep.specs.Failing.{Failing}
use Rattle.keep.specs.Seen.{Seen}
use Rattle.keep.specs.Tables.{empty}
use Rattle.keep.specs.declared.faulty.Leaves.TheVariants.{Old as OldTables, New as NewTables}
use Rattle.endpoint.specs.declared.answer.Committed.{Committed}
use Rattle.endpoint.specs.declared.fault.EndFault.{EndFault}
use Rattle.endpoint.specs.declared.fault.EndFault.TheVariants.{NotMine, Business, TooEarly, StoreFailed, Memory}
use Rattle.endpoint.specs.declared.fault.EndFault.TheVariants.{Unusable, NumberLimit}
use Rattle.endpoint.specs.declared.fault.EndFault.TheVariants.{NotSent}
use Rattle.endpoint.specs.Deeds.{Nothing}
use Rattle.endpoint.proofs.Examples.{o1, bolts, placing}
use Rattle.endpoint.proofs.CallExamples.{orders, OrderTables}
use Rattle.relay.specs.declared.fault.RelayFault.{RelayFault}
use Rattle.relay.specs.declared.fault.RelayFault.TheVariants as relay_fault
use Rattle.broker_core.specs.declared.fault.BrokerFault.{BrokerFault}
use Rattle.schedule_mail.specs.Mails.{new_mail}
use Rattle.reception.specs.declared.fault.ReceptionFault.{ReceptionFault}
use Rattle.reception.specs.declared.fault.ReceptionFault.TheVariants as fault
use Rattle.reception.specs.declared.taken.Drained.{Drained}
use Rattle.reception.specs.declared.taken.Taken.{Taken}
use Rattle.reception.specs.declared.taken.Taken.TheVariants as taken
use Rattle.schedule_text.specs.declared.event.FailureLeaves.TheVariants as failure
use Rattle.schedule_text.specs.declared.event.SeatCommand.{SeatCommand}
use Rattle.schedule_text.specs.declared.outcome.Outcome.TheVariants as told
use Rattle.schedule_service.specs.SiteSteps.{command_row, leaves_of, waiting_of, with_store}
use Rattle.schedule_service.specs.SiteSteps.{ArmsStore, TakesCommand, DrainsAlone}
use Rattle.schedule_service.specs.SiteSteps.{ReopensStore, StopsSite}
use Rattle.schedule_service.specs.Outcomes.{fault_told, commit_told, end_told, fill_told, rise_told, fall_told}
use Rattle.schedule_service.specs.Outcomes.{reception_told, taken_told, drain_told}
use Rattle.schedule_service.specs.declared.site_channel.SiteChannel.{SiteChannel}
use Rattle.schedule_service.specs.declared.site.Site.{Site}

-- ---- plain parts

abbrev pub asked : SeatCommand Asked
asked = record { seat = 0; entity = o1; command = both }

-- a seat's command is the row that the journal takes; that of a command for another entity isn't
rows_are_of_commands : (command_row asked ≡ placing) × (leaves_of failure.Old ≡ OldTables)
    × (leaves_of failure.New ≡ NewTables)
    × (leaves_of failure.Old ≡ NewTables → ⊥)
rows_are_of_commands = (refl, refl, refl, λ h. absurd (cc))

other_rows : command_row (record asked { entity = bolts }) ≡ placing → ⊥
other_rows h = let kind : Stock ≡ Order = ap (λ (row : JournalRow Asked). row.entity.kind) h in absurd (cc)

-- a frame that was taken doesn't wait, nor does one behind a fault of the endpoint; for want of memory it does
frames_wait_or_not : (f : Content) → (waiting_of (Ok taken.Held) f ≡ None)
    × (waiting_of (Err (fault.Client client.Memory)) f ≡ Some f)
    × (waiting_of (Err (fault.End Memory)) f ≡ None)
    × (waiting_of (Ok taken.Held) f ≡ Some f → ⊥) × (waiting_of (Err (fault.Client client.Memory)) f ≡ None → ⊥)
frames_wait_or_not f = (refl, refl, refl, λ h. absurd (cc), λ h. absurd (cc))

-- ---- none of these answers is told as `Opened`

pub not_fault : (f : EndFault) → told.Opened ≡ fault_told f → ⊥
not_fault NotMine h = absurd (cc)
not_fault (Business refusal) h = absurd (cc)
not_fault TooEarly h = absurd (cc)
not_fault StoreFailed h = absurd (cc)
not_fault Memory h = absurd (cc)
not_fault Unusable h = absurd (cc)
not_fault NumberLimit h = absurd (cc)
not_fault NotSent h = absurd (cc)

not_commit : (r : Result Committed EndFault) → told.Opened ≡ commit_told r → ⊥
not_commit (Ok c) h = absurd (cc)
not_commit (Err f) h = not_fault f h

not_reopening : (r : Result (Unit {0}) EndFault) → told.Opened ≡ end_told (λ _. told.Reopened) r → ⊥
not_reopening (Ok c) h = absurd (cc)
not_reopening (Err f) h = not_fault f h

not_stop : (r : Result (Unit {0}) EndFault) → told.Opened ≡ end_told (λ _. told.Stopped) r → ⊥
not_stop (Ok c) h = absurd (cc)
not_stop (Err f) h = not_fault f h

pub not_filling : (r : Result ℕ RelayFault) → told.Opened ≡ fill_told r → ⊥
not_filling (Ok count) h = absurd (cc)
not_filling (Err (relay_fault.Client cause)) h = absurd (cc)
not_filling (Err (relay_fault.Envelope cause)) h = absurd (cc)
not_filling (Err (relay_fault.Endpoint f)) h = not_fault f h

pub not_rise : (r : Result ℕ BrokerFault) → told.Opened ≡ rise_told r → ⊥
not_rise (Ok count) h = absurd (cc)
not_rise (Err f) h = absurd (cc)

pub not_fall : (r : Result ℕ FrameFault) → told.Opened ≡ fall_told r → ⊥
not_fall (Ok count) h = absurd (cc)
not_fall (Err frame.Memory) h = absurd (cc)
not_fall (Err frame.UnknownCommand) h = absurd (cc)
not_fall (Err frame.BadLine) h = absurd (cc)
not_fall (Err frame.BadEscape) h = absurd (cc)
not_fall (Err frame.NotUtf8) h = absurd (cc)
not_fall (Err frame.TooManyHeaders) h = absurd (cc)
not_fall (Err frame.LineTooLong) h = absurd (cc)
not_fall (Err frame.BadLength) h = absurd (cc)
not_fall (Err frame.BodyTooLong) h = absurd (cc)
not_fall (Err frame.NoNull) h = absurd (cc)
not_fall (Err frame.BodyNotAllowed) h = absurd (cc)
not_fall (Err frame.Failed) h = absurd (cc)

pub not_reception : (f : ReceptionFault) → told.Opened ≡ reception_told f → ⊥
not_reception (fault.Frame cause) h = absurd (cc)
not_reception (fault.Client cause) h = absurd (cc)
not_reception (fault.Envelope cause) h = absurd (cc)
not_reception (fault.End f) h = not_fault f h

pub not_drain : (r : Result (Option Drained) ReceptionFault) → told.Opened ≡ drain_told r → ⊥
not_drain (Ok (Some drained)) h = absurd (cc)
not_drain (Ok None) h = absurd (cc)
not_drain (Err f) h = not_reception f h

pub not_taken : (r : Result Taken ReceptionFault) → told.Opened ≡ taken_told r → ⊥
not_taken (Ok taken.Connected) h = absurd (cc)
not_taken (Ok (taken.Receipt number)) h = absurd (cc)
not_taken (Ok (taken.Handled position)) h = absurd (cc)
not_taken (Ok (taken.Repeated number)) h = absurd (cc)
not_taken (Ok taken.Held) h = absurd (cc)
not_taken (Ok (taken.Settled mark)) h = absurd (cc)
not_taken (Ok (taken.Error text)) h = absurd (cc)
not_taken (Err f) h = not_reception f h

-- ---- a service of orders, whose store has empty tables and is usable or not

abbrev pub seen : Bool → Seen OrderTables
seen usable =
    record { tables = empty; may_leave = λ t. t ≡ empty; failures = 0; usable = usable; doubt = 0; armed = None }

abbrev pub store : Bool → Failing Bool
store usable = record { keep = usable; armed = None; is_down = false; failures = 0 }

abbrev pub Service : Type 0
Service = Site ℕ Bool (Option Asked) Asked

abbrev pub site : Bool → Option SiteChannel → Service
site usable zero = record { endpoint = store usable; zero = zero; one = None }

abbrev pub is_open : Option SiteChannel → ℕ
is_open None = 0
is_open (Some l) = 1

abbrev pub opened : Service → ℕ
opened s = is_open s.zero

-- a store that isn't usable refuses a command, and nothing changes; a command opens no connection
commands_are_given : TakesCommand seen orders asked (told.Refused 65) (site false None) new_mail (site false None)
    new_mail
    × (TakesCommand seen orders asked told.Opened (site true None) new_mail (site true None) new_mail → ⊥)
commands_are_given = (
  record {
    result = Err Unusable;
    commits = record { call = ((refl, refl), tt); doubt = omega arith; clean = λ clean good. (refl, refl) };
    tells = refl;
    after = (refl, refl);
  },
  λ h. not_commit h.result h.tells,
)

-- the tables that a stop may leave are found; no opening of a store opens a connection
stores_are_reopened : ReopensStore seen orders told.Reopened (site true None) new_mail (site true None) new_mail
    × (ReopensStore seen orders told.Opened (site true None) new_mail (site true None) new_mail → ⊥)
    × StopsSite seen orders told.Stopped (site true None) new_mail (site true None) new_mail
    × (StopsSite seen orders told.Opened (site true None) new_mail (site true None) new_mail → ⊥)
stores_are_reopened = (
  record {
    result = Ok tt;
    reopens = record { call = (refl, refl, refl); doubt = omega arith; clean = λ clean. ∣ refl ∣₁ };
    finds = λ clean t left. ∣ left ∣₁;
    tells = refl;
    after = (refl, refl);
  },
  λ h. not_reopening h.result h.tells,
  record {
    result = Ok tt;
    opened = store true;
    reopens = record { call = (refl, refl, refl); doubt = omega arith; clean = λ clean. ∣ refl ∣₁ };
    finds = λ clean t left. ∣ left ∣₁;
    tells = refl;
    cuts = record { between = new_mail; zero = refl; one = refl; site = refl };
  },
  λ h. not_stop h.result h.tells,
)

-- the store is armed, and not told to leave the other tables
stores_are_armed : ArmsStore 2 failure.New told.Armed (site true None) new_mail
    (with_store (record (store true) { armed = Some (record { calls = 2; leaves = NewTables }) }) (site true None))
    new_mail
    × (ArmsStore 2 failure.New told.Armed (site true None) new_mail (site true None) new_mail → ⊥)
    × (ArmsStore 2 failure.New told.Reopened (site true None) new_mail (site true None) new_mail → ⊥)
stores_are_armed = (
  (refl, (refl, refl)),
  λ h. let armed = ap (λ (s : Service). s.endpoint.armed) h.1.0 in absurd (cc),
  λ h. let told = h.0 in absurd (cc),
)

-- no held letter is handled for want of memory; and none opens a connection
letters_are_drained : DrainsAlone seen orders (told.Refused 44) (site true None) new_mail (site true None) new_mail
    × (DrainsAlone seen orders told.Opened (site true None) new_mail (site true None) new_mail → ⊥)
letters_are_drained = (
  record {
    result = Err (fault.Client client.Memory);
    comes = λ clean good t left. record { before = t; deed = Nothing; was = left; may = refl; did = refl };
    used = (refl, refl, refl, refl);
    tells = refl;
    meets = (refl, refl);
  },
  λ h. not_drain h.result h.tells,
)
