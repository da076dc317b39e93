-- What a service takes in came to it, or was held there.
use Rattle.std.proofs.Common.{◌≡◌, Option, Some, None}
use Rattle.std.specs.Prelude.{Result, Ok, Err}
use Rattle.stomp_frame.specs.Frames.{Content}
use Rattle.envelope.specs.Reading.{read_frame}
use Rattle.envelope.specs.declared.message.Envelope.{Envelope}
use Rattle.envelope.specs.declared.message.Envelope.TheVariants as envelope
use Rattle.activities.specs.Service.{Service}
use Rattle.activities.proofs.Sameness.{either}
use Rattle.endpoint.specs.Deeds.{Kept, Deed}
use Rattle.endpoint.specs.declared.answer.Ingested.TheVariants as ingested
use Rattle.endpoint.specs.declared.fault.EndFault.TheVariants.{Business}
use Rattle.reception.specs.Deeds.{TakeMay}
use Rattle.reception.specs.Draining.{DrainsMay}
use Rattle.reception.specs.declared.fault.ReceptionFault.{ReceptionFault}
use Rattle.reception.specs.declared.fault.ReceptionFault.TheVariants.{Frame, Client, Envelope as Unread, End}
use Rattle.reception.specs.declared.taken.Drained.{Drained}
use Rattle.reception.specs.declared.taken.Taken.{Taken}
use Rattle.reception.specs.declared.taken.Taken.TheVariants as taken
use Rattle.schedule_text.specs.declared.event.ConnectionNumber.{ConnectionNumber}
use Rattle.schedule_text.specs.declared.event.SeatCommand.{SeatCommand}
use Rattle.schedule_text.specs.declared.outcome.Outcome.{Outcome}
use Rattle.schedule_text.specs.declared.outcome.Outcome.TheVariants as outcome
use Rattle.schedule_service.specs.Deeds.{Channels, CameOn, CommandMay, FrameMay, HeldMay, SiteMay}
use Rattle.schedule_service.specs.SiteSteps.{command_row}
use Rattle.schedule_service.specs.SiteEvents.{SiteEvent, Commits, Opens, Cuts, Fills, Resends, Carries, Takes, Drains}
use Rattle.schedule_service.specs.SiteEvents.{Arms, Reopens, Stops}
use Rattle.laws_stores.specs.Deeds.{DeedIs}
use Rattle.laws_stores.proofs.Founded.{HeldIs, nothing_is, command_is, ingest_is, settle_is, drain_is}

module _ {S C : Type 0} (s : Service S C) (P : Envelope → Type 0) where
  -- what these frames carry has the property
  abbrev FramesAre : (Content → Type 0) → Type 0
  FramesAre Came = (f : Content) → Came f → (e : Envelope) → read_frame f ≡ Some e → P e

  command_founded : (asked : SeatCommand C) (o : Outcome) (x : Kept C) (d : Deed C)
      → CommandMay s (command_row asked) o x d → DeedIs P d
  command_founded asked (outcome.Committed pos) x d may = command_is s P asked.entity asked.seat asked.command d may.0
  command_founded asked (outcome.NotDone refusal) x d may = nothing_is s P d may.0
  command_founded asked (outcome.Refused n) x d may = either may (nothing_is s P d)
      (λ h. command_is s P asked.entity asked.seat asked.command d h.1)
  command_founded asked _ x d may = absurd may

  take_founded : (f : Content) → ((e : Envelope) → read_frame f ≡ Some e → P e)
      → (r : Result Taken ReceptionFault) (x : Kept C)
      (d : Deed C) → TakeMay s f r x d → DeedIs P d
  take_founded f all (Ok (taken.Handled pos)) x d may =
      ingest_is s P may.0 (all (envelope.Letter may.0) may.1) (Ok (ingested.Handled pos)) x d may.2
  take_founded f all (Ok (taken.Repeated n)) x d may =
      ingest_is s P may.0 (all (envelope.Letter may.0) may.1) (Ok (ingested.Repeated _)) x d may.2
  take_founded f all (Ok taken.Held) x d may =
      ingest_is s P may.0 (all (envelope.Letter may.0) may.1) (Ok ingested.Held) x d may.2
  take_founded f all (Ok (taken.Settled mark)) x d may =
      settle_is s P may.0 may.1 (all (envelope.Settle may.0 may.1) may.2) (Ok mark) x d may.3
  take_founded f all (Ok taken.Connected) x d may = nothing_is s P d may
  take_founded f all (Ok (taken.Receipt n)) x d may = nothing_is s P d may
  take_founded f all (Ok (taken.Error text)) x d may = nothing_is s P d may
  take_founded f all (Err (End fault)) x d may = either may
      (λ h. ingest_is s P h.0 (all (envelope.Letter h.0) h.1) (Err fault) x d h.2)
      (λ h. settle_is s P h.0 h.1 (all (envelope.Settle h.0 h.1) h.2) (Err fault) x d h.3)
  take_founded f all (Err (Frame fault)) x d may = nothing_is s P d may
  take_founded f all (Err (Client fault)) x d may = nothing_is s P d may
  take_founded f all (Err (Unread fault)) x d may = nothing_is s P d may

  frame_founded : (Came : Content → Type 0) → FramesAre Came → (o : Outcome) (x : Kept C) (d : Deed C)
      → FrameMay s Came o x d → DeedIs P d
  frame_founded Came all (outcome.Handled pos) x d may =
      take_founded may.0 (all may.0 may.1) (Ok (taken.Handled pos)) x d may.2
  frame_founded Came all outcome.Repeated x d may =
      take_founded may.0 (all may.0 may.2) (Ok (taken.Repeated may.1)) x d may.3
  frame_founded Came all outcome.Held x d may = take_founded may.0 (all may.0 may.1) (Ok taken.Held) x d may.2
  frame_founded Came all (outcome.Settled mark) x d may =
      take_founded may.0 (all may.0 may.1) (Ok (taken.Settled mark)) x d may.2
  frame_founded Came all (outcome.Refused n) x d may = either may (nothing_is s P d)
      (λ h. take_founded h.0 (all h.0 h.2) (Err (End h.1)) x d h.4)
  frame_founded Came all (outcome.NotDone refusal) x d may =
      take_founded may.0 (all may.0 may.1) (Err (End (Business refusal))) x d may.2
  frame_founded Came all _ x d may = nothing_is s P d may

  drain_founded : (r : Result (Option Drained) ReceptionFault) (x : Kept C) (d : Deed C) → HeldIs s P x
      → DrainsMay s r x d → DeedIs P d
  drain_founded (Ok (Some drained)) x d held may = drain_is s P drained.pair (Ok (Some drained.number)) x d held may.1
  drain_founded (Ok None) x d held may = nothing_is s P d may.0
  drain_founded (Err (End fault)) x d held may =
      either may (λ h. nothing_is s P d h.1) (λ h. drain_is s P h.0 (Err fault) x d held h.2)
  drain_founded (Err (Frame fault)) x d held may = nothing_is s P d may
  drain_founded (Err (Client fault)) x d held may = nothing_is s P d may
  drain_founded (Err (Unread fault)) x d held may = nothing_is s P d may

  held_founded : (o : Outcome) (x : Kept C) (d : Deed C) → HeldIs s P x → HeldMay s o x d → DeedIs P d
  held_founded (outcome.Drained pair number) x d held may =
      drain_founded (Ok (Some (record { pair = pair; number = number }))) x d held may
  held_founded outcome.Idle x d held may = drain_founded (Ok None) x d held may
  held_founded (outcome.Refused n) x d held may =
      either may (nothing_is s P d) (λ h. drain_founded (Err (End h.0)) x d held h.2)
  held_founded (outcome.NotDone refusal) x d held may = drain_founded (Err (End (Business refusal))) x d held may
  held_founded _ x d held may = absurd may

  -- where all that may come on the connections and all that is held has a property, what an event takes in has it
  pub site_founded : (channels : Channels) → ((n : ConnectionNumber) → FramesAre (CameOn (channels n)))
      → (event : SiteEvent C) (o : Outcome)
      (x : Kept C) (d : Deed C) → HeldIs s P x → SiteMay s channels event o x d → DeedIs P d
  site_founded channels all (Commits asked) o x d held may = command_founded asked o x d may
  site_founded channels all (Takes number) o x d held may =
      frame_founded (CameOn (channels number)) (all number) o x d may
  site_founded channels all (Drains number) o x d held may = held_founded o x d held may
  site_founded channels all (Opens number) o x d held may = nothing_is s P d may
  site_founded channels all (Cuts number) o x d held may = nothing_is s P d may
  site_founded channels all (Fills number limit) o x d held may = nothing_is s P d may
  site_founded channels all (Resends number) o x d held may = nothing_is s P d may
  site_founded channels all (Carries number way most) o x d held may = nothing_is s P d may
  site_founded channels all (Arms n leaves) o x d held may = nothing_is s P d may
  site_founded channels all Reopens o x d held may = nothing_is s P d may
  site_founded channels all Stops o x d held may = nothing_is s P d may
