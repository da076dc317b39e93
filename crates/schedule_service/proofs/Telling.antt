-- From what an answer allows to what its outcome tells.
use Rattle.std.proofs.Common.{◌≡◌, refl, inl, inr, Option, Some, None}
use Rattle.std.specs.Prelude.{Result, Ok, Err}
use Rattle.stomp_frame.specs.Frames.{Content}
use Rattle.activities.specs.Service.{Service}
use Rattle.activities.specs.declared.input.JournalRow.{JournalRow}
use Rattle.endpoint.specs.Deeds.{Kept, Deed, CommitMay}
use Rattle.endpoint.specs.declared.answer.Committed.{Committed}
use Rattle.endpoint.specs.declared.fault.EndFault.{EndFault}
use Rattle.endpoint.specs.declared.fault.EndFault.TheVariants as end
use Rattle.reception.specs.Deeds.{TakeMay}
use Rattle.reception.specs.Draining.{DrainsMay}
use Rattle.reception.specs.declared.fault.ReceptionFault.{ReceptionFault}
use Rattle.reception.specs.declared.fault.ReceptionFault.TheVariants as fault
use Rattle.reception.specs.declared.taken.Drained.{Drained}
use Rattle.reception.specs.declared.taken.Taken.{Taken}
use Rattle.reception.specs.declared.taken.Taken.TheVariants as taken
use Rattle.schedule_text.specs.declared.outcome.Outcome.{Outcome}
use Rattle.schedule_text.specs.declared.outcome.Outcome.TheVariants as told
use Rattle.schedule_service.specs.Deeds.{CommandMay, FrameMay, HeldMay}
use Rattle.schedule_service.specs.Outcomes.{commit_told, taken_told, drain_told}

module _ {S C : Type 0} (service : Service S C) where
  pub command_told : (row : JournalRow C) (r : Result Committed EndFault) (x : Kept C) (d : Deed C)
      → CommitMay service row r x d
      → CommandMay service row (commit_told r) x d
  command_told row (Ok c) x d h = h
  command_told row (Err end.NotMine) x d h = inl h
  command_told row (Err (end.Business refusal)) x d h = h
  command_told row (Err end.TooEarly) x d h = inl h
  command_told row (Err end.StoreFailed) x d (inl h) = inl h
  command_told row (Err end.StoreFailed) x d (inr h) = inr (refl, h)
  command_told row (Err end.Memory) x d h = inl h
  command_told row (Err end.Unusable) x d h = inl h
  command_told row (Err end.NumberLimit) x d h = inl h
  command_told row (Err end.NotSent) x d h = inl h

  pub frame_told : (f : Content) (r : Result Taken ReceptionFault) (x : Kept C) (d : Deed C) → TakeMay service f r x d
      → FrameMay service (λ g. g ≡ f) (taken_told r) x d
  frame_told f (Ok taken.Connected) x d h = h
  frame_told f (Ok (taken.Receipt number)) x d h = h
  frame_told f (Ok (taken.Handled position)) x d h = (f, refl, h)
  frame_told f (Ok (taken.Repeated number)) x d h = (f, number, refl, h)
  frame_told f (Ok taken.Held) x d h = (f, refl, h)
  frame_told f (Ok (taken.Settled mark)) x d h = (f, refl, h)
  frame_told f (Ok (taken.Error text)) x d h = h
  frame_told f (Err (fault.Frame cause)) x d h = inl h
  frame_told f (Err (fault.Client cause)) x d h = inl h
  frame_told f (Err (fault.Envelope cause)) x d h = inl h
  frame_told f (Err (fault.End end.NotMine)) x d h = inr (f, end.NotMine, refl, refl, h)
  frame_told f (Err (fault.End (end.Business refusal))) x d h = (f, refl, h)
  frame_told f (Err (fault.End end.TooEarly)) x d h = inr (f, end.TooEarly, refl, refl, h)
  frame_told f (Err (fault.End end.StoreFailed)) x d h = inr (f, end.StoreFailed, refl, refl, h)
  frame_told f (Err (fault.End end.Memory)) x d h = inr (f, end.Memory, refl, refl, h)
  frame_told f (Err (fault.End end.Unusable)) x d h = inr (f, end.Unusable, refl, refl, h)
  frame_told f (Err (fault.End end.NumberLimit)) x d h = inr (f, end.NumberLimit, refl, refl, h)
  frame_told f (Err (fault.End end.NotSent)) x d h = inr (f, end.NotSent, refl, refl, h)

  -- another account of the frame that came
  pub frame_more : (A B : Content → Type 0) → ((f : Content) → A f → B f)
      → (outcome : Outcome) (x : Kept C) (d : Deed C)
      → FrameMay service A outcome x d → FrameMay service B outcome x d
  frame_more A B more (told.Handled position) x d h = (h.0, more h.0 h.1, h.2)
  frame_more A B more told.Repeated x d h = (h.0, h.1, more h.0 h.2, h.3)
  frame_more A B more told.Held x d h = (h.0, more h.0 h.1, h.2)
  frame_more A B more (told.Settled mark) x d h = (h.0, more h.0 h.1, h.2)
  frame_more A B more (told.Refused n) x d (inl h) = inl h
  frame_more A B more (told.Refused n) x d (inr h) = inr (h.0, h.1, more h.0 h.2, h.3, h.4)
  frame_more A B more (told.NotDone refusal) x d h = (h.0, more h.0 h.1, h.2)
  frame_more A B more other x d h = h

  pub held_told : (r : Result (Option Drained) ReceptionFault) (x : Kept C) (d : Deed C) → DrainsMay service r x d
      → HeldMay service (drain_told r) x d
  held_told (Ok (Some drained)) x d h = h
  held_told (Ok None) x d h = h
  held_told (Err (fault.Frame cause)) x d h = inl h
  held_told (Err (fault.Client cause)) x d h = inl h
  held_told (Err (fault.Envelope cause)) x d h = inl h
  held_told (Err (fault.End end.NotMine)) x d h = inr (end.NotMine, refl, h)
  held_told (Err (fault.End (end.Business refusal))) x d h = h
  held_told (Err (fault.End end.TooEarly)) x d h = inr (end.TooEarly, refl, h)
  held_told (Err (fault.End end.StoreFailed)) x d h = inr (end.StoreFailed, refl, h)
  held_told (Err (fault.End end.Memory)) x d h = inr (end.Memory, refl, h)
  held_told (Err (fault.End end.Unusable)) x d h = inr (end.Unusable, refl, h)
  held_told (Err (fault.End end.NumberLimit)) x d h = inr (end.NumberLimit, refl, h)
  held_told (Err (fault.End end.NotSent)) x d h = inr (end.NotSent, refl, h)
