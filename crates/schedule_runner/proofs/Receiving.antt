-- What frames and held letters do is no command.
use Rattle.std.proofs.Common.{Some}
use Rattle.std.specs.Prelude.{Result, Ok, Err}
use Rattle.stomp_frame.specs.Frames.{Content}
use Rattle.activities.specs.Service.{Service}
use Rattle.activities.proofs.Sameness.{either}
use Rattle.endpoint.specs.Deeds.{Kept, Deed}
use Rattle.endpoint.specs.declared.answer.Ingested.TheVariants as ingested
use Rattle.endpoint.specs.declared.fault.EndFault.TheVariants.{Business}
use Rattle.reception.specs.Deeds.{TakeMay}
use Rattle.reception.specs.declared.fault.ReceptionFault.{ReceptionFault}
use Rattle.reception.specs.declared.fault.ReceptionFault.TheVariants.{Frame, Client, Envelope, End}
use Rattle.reception.specs.declared.taken.Taken.{Taken}
use Rattle.reception.specs.declared.taken.Taken.TheVariants as taken
use Rattle.schedule_text.specs.declared.outcome.Outcome.{Outcome}
use Rattle.schedule_text.specs.declared.outcome.Outcome.TheVariants as outcome
use Rattle.schedule_service.specs.Deeds.{FrameMay, HeldMay}
use Rattle.schedule_runner.proofs.Resting.{IsNoCommand, nothing_is, ingest_rests, settle_rests, drain_rests}

module _ {S C : Type 0} (s : Service S C) where
  reception_rests : (f : Content) (r : Result Taken ReceptionFault) (x : Kept C) (d : Deed C) → TakeMay s f r x d
      → IsNoCommand d
  reception_rests f (Ok (taken.Handled pos)) x d may = ingest_rests s may.0 (Ok (ingested.Handled pos)) x d may.2
  reception_rests f (Ok (taken.Repeated n)) x d may = ingest_rests s may.0 (Ok (ingested.Repeated _)) x d may.2
  reception_rests f (Ok taken.Held) x d may = ingest_rests s may.0 (Ok ingested.Held) x d may.2
  reception_rests f (Ok (taken.Settled mark)) x d may = settle_rests s may.0 may.1 (Ok mark) x d may.3
  reception_rests f (Ok taken.Connected) x d may = nothing_is d may
  reception_rests f (Ok (taken.Receipt n)) x d may = nothing_is d may
  reception_rests f (Ok (taken.Error text)) x d may = nothing_is d may
  reception_rests f (Err (End fault)) x d may =
      either may (λ h. ingest_rests s h.0 (Err fault) x d h.2) (λ h. settle_rests s h.0 h.1 (Err fault) x d h.3)
  reception_rests f (Err (Frame fault)) x d may = nothing_is d may
  reception_rests f (Err (Client fault)) x d may = nothing_is d may
  reception_rests f (Err (Envelope fault)) x d may = nothing_is d may

  pub frame_rests : (Came : Content → Type 0) (o : Outcome) (x : Kept C) (d : Deed C) → FrameMay s Came o x d
      → IsNoCommand d
  frame_rests Came (outcome.Handled pos) x d may = reception_rests may.0 (Ok (taken.Handled pos)) x d may.2
  frame_rests Came outcome.Repeated x d may = reception_rests may.0 (Ok (taken.Repeated may.1)) x d may.3
  frame_rests Came outcome.Held x d may = reception_rests may.0 (Ok taken.Held) x d may.2
  frame_rests Came (outcome.Settled mark) x d may = reception_rests may.0 (Ok (taken.Settled mark)) x d may.2
  frame_rests Came (outcome.Refused n) x d may =
      either may (nothing_is d) (λ h. reception_rests h.0 (Err (End h.1)) x d h.4)
  frame_rests Came (outcome.NotDone r) x d may = reception_rests may.0 (Err (End (Business r))) x d may.2
  frame_rests Came outcome.Opened x d may = nothing_is d may
  frame_rests Came outcome.Already x d may = nothing_is d may
  frame_rests Came outcome.Closed x d may = nothing_is d may
  frame_rests Came outcome.Cut x d may = nothing_is d may
  frame_rests Came (outcome.Committed pos) x d may = nothing_is d may
  frame_rests Came (outcome.Sent n) x d may = nothing_is d may
  frame_rests Came outcome.Due x d may = nothing_is d may
  frame_rests Came (outcome.Carried n) x d may = nothing_is d may
  frame_rests Came outcome.Connected x d may = nothing_is d may
  frame_rests Came (outcome.Receipt n) x d may = nothing_is d may
  frame_rests Came (outcome.Error text) x d may = nothing_is d may
  frame_rests Came outcome.Idle x d may = nothing_is d may
  frame_rests Came (outcome.Drained p n) x d may = nothing_is d may
  frame_rests Came (outcome.Again n) x d may = nothing_is d may
  frame_rests Came outcome.Absent x d may = nothing_is d may
  frame_rests Came outcome.Armed x d may = nothing_is d may
  frame_rests Came outcome.Reopened x d may = nothing_is d may
  frame_rests Came outcome.Stopped x d may = nothing_is d may
  frame_rests Came outcome.Pumped x d may = nothing_is d may
  frame_rests Came (outcome.Shown text) x d may = nothing_is d may
  frame_rests Came (outcome.Agreement agree) x d may = nothing_is d may

  pub held_rests : (o : Outcome) (x : Kept C) (d : Deed C) → HeldMay s o x d → IsNoCommand d
  held_rests (outcome.Drained p n) x d may = drain_rests s p (Ok (Some n)) x d may.1
  held_rests outcome.Idle x d may = nothing_is d may.0
  held_rests (outcome.Refused n) x d may = either may (nothing_is d)
      (λ h. either h.2 (λ k. nothing_is d k.1) (λ k. drain_rests s k.0 (Err h.0) x d k.2))
  held_rests (outcome.NotDone r) x d may = either may (λ k. absurd k.0) (λ k. absurd k.2)
  held_rests outcome.Opened x d may = absurd may
  held_rests outcome.Already x d may = absurd may
  held_rests outcome.Closed x d may = absurd may
  held_rests outcome.Cut x d may = absurd may
  held_rests (outcome.Committed pos) x d may = absurd may
  held_rests (outcome.Sent n) x d may = absurd may
  held_rests outcome.Due x d may = absurd may
  held_rests (outcome.Carried n) x d may = absurd may
  held_rests outcome.Connected x d may = absurd may
  held_rests (outcome.Receipt n) x d may = absurd may
  held_rests (outcome.Handled pos) x d may = absurd may
  held_rests outcome.Repeated x d may = absurd may
  held_rests outcome.Held x d may = absurd may
  held_rests (outcome.Settled mark) x d may = absurd may
  held_rests (outcome.Error text) x d may = absurd may
  held_rests (outcome.Again n) x d may = absurd may
  held_rests outcome.Absent x d may = absurd may
  held_rests outcome.Armed x d may = absurd may
  held_rests outcome.Reopened x d may = absurd may
  held_rests outcome.Stopped x d may = absurd may
  held_rests outcome.Pumped x d may = absurd may
  held_rests (outcome.Shown text) x d may = absurd may
  held_rests (outcome.Agreement agree) x d may = absurd may
