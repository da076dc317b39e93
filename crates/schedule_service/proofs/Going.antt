-- From what a call of the endpoint tells to the deed of an event.
use Rattle.std.proofs.Common.{◌≡◌, refl, sym, subst, Option, Result, Err}
use Rattle.std.proofs.Math.Logic.{∥∥₁_map}
use Rattle.activities.specs.Service.{Service}
use Rattle.stomp_frame.specs.Frames.{Content}
use Rattle.activities.specs.declared.input.JournalRow.{JournalRow}
use Rattle.keep.specs.Failing.{Failing, through}
use Rattle.keep.specs.Seen.{Seen}
use Rattle.keep.specs.Tables.{Tables}
use Rattle.endpoint.specs.Calls.{ComesBy, Stays, Finds}
use Rattle.endpoint.specs.Deeds.{Kept, kept, Deed, Nothing, CommitMay}
use Rattle.endpoint.specs.declared.answer.Committed.{Committed}
use Rattle.endpoint.specs.declared.fault.EndFault.{EndFault}
use Rattle.reception.specs.Deeds.{TakeMay}
use Rattle.reception.specs.Draining.{DrainsMay}
use Rattle.reception.specs.declared.fault.ReceptionFault.{ReceptionFault}
use Rattle.reception.specs.declared.taken.Drained.{Drained}
use Rattle.reception.specs.declared.taken.Taken.{Taken}
use Rattle.schedule_text.specs.declared.outcome.Outcome.{Outcome}
use Rattle.schedule_service.specs.Deeds.{Goes, CommandMay, FrameMay, HeldMay}
use Rattle.schedule_service.specs.Outcomes.{fault_told, end_told, taken_told, drain_told}
use Rattle.schedule_service.proofs.Telling.{command_told, frame_told, held_told}
use Rattle.schedule_service.specs.declared.site.Site.{Site}

module _ {H K S C : Type 0} (seen : K → Seen (Tables S C)) (s t : Site H K S C) (service : Service S C) where
  -- a deed was done
  pub comes_goes : (allowed may : Kept C → Deed C → Type 0) → ((x : Kept C) (d : Deed C) → allowed x d → may x d)
      → ComesBy (through seen) s.endpoint t.endpoint service allowed → Goes seen s t service may
  comes_goes allowed may more comes clean good u b = let c = comes clean good u b in
      ∣ record { before = c.before; deed = c.deed; was = c.was; may = more (kept c.before) c.deed c.may; did = c.did }
      ∣₁

  -- nothing was done
  pub stays_goes : (may : Kept C → Deed C → Type 0) → ((x : Kept C) → may x Nothing)
      → Stays (through seen) s.endpoint t.endpoint
      → Goes seen s t service may
  stays_goes may none stays clean good u b =
      ∣ record { before = u; deed = Nothing; was = stays clean u b; may = none (kept u); did = refl } ∣₁

  -- the store was opened again
  pub finds_goes : (may : Kept C → Deed C → Type 0) → ((x : Kept C) → may x Nothing)
      → Finds (through seen) s.endpoint t.endpoint
      → Goes seen s t service may
  finds_goes may none finds clean good u b = ∥∥₁_map (finds clean u b)
      (λ was. record { before = u; deed = Nothing; was = was; may = none (kept u); did = refl })

  -- a command was refused
  pub refused_goes : (row : JournalRow C) (r : Result Committed EndFault) (fault : EndFault) (outcome : Outcome)
      (between : Failing K)
      → r ≡ Err fault → outcome ≡ fault_told fault → t.endpoint ≡ between
      → ComesBy (through seen) s.endpoint between service (CommitMay service row r)
      → Goes seen s t service (CommandMay service row outcome)
  refused_goes row r fault outcome between is told store comes =
      comes_goes (CommitMay service row r) (CommandMay service row outcome)
      (λ x d h. subst (λ o. CommandMay service row o x d) (sym told)
      (command_told service row (Err fault) x d (subst (λ q. CommitMay service row q x d) is h)))
      (subst (λ e. ComesBy (through seen) s.endpoint e service (CommitMay service row r)) (sym store) comes)

module _ {K S C : Type 0} (seen : K → Seen (Tables S C)) (old between new : Failing K) (service : Service S C)
    (outcome : Outcome) where
  -- a deed that was allowed is allowed where more are
  pub comes_more : (allowed may : Kept C → Deed C → Type 0) → ((x : Kept C) (d : Deed C) → allowed x d → may x d)
      → new ≡ between
      → ComesBy (through seen) old between service allowed → ComesBy (through seen) old new service may
  comes_more allowed may more store comes = subst (λ e. ComesBy (through seen) old e service may) (sym store)
      (λ clean good u b. let c = comes clean good u b in
      record { before = c.before; deed = c.deed; was = c.was; may = more (kept c.before) c.deed c.may; did = c.did })

  -- a frame was taken, or held letters were handled
  pub frame_comes : (f : Content) (r : Result Taken ReceptionFault) → outcome ≡ taken_told r → new ≡ between
      → ComesBy (through seen) old between service (TakeMay service f r)
      → ComesBy (through seen) old new service (FrameMay service (λ g. g ≡ f) outcome)
  frame_comes f r told = comes_more (TakeMay service f r) (FrameMay service (λ g. g ≡ f) outcome)
      (λ x d h. subst (λ o. FrameMay service (λ g. g ≡ f) o x d) (sym told) (frame_told service f r x d h))

  pub held_comes : (r : Result (Option Drained) ReceptionFault) → outcome ≡ drain_told r → new ≡ between
      → ComesBy (through seen) old between service (DrainsMay service r)
      → ComesBy (through seen) old new service (HeldMay service outcome)
  held_comes r told = comes_more (DrainsMay service r) (HeldMay service outcome)
      (λ x d h. subst (λ o. HeldMay service o x d) (sym told) (held_told service r x d h))

-- what is told of a refusal is what its answer tells
pub told_refused : {R : Type 0} (tell : R → Outcome) (r : Result R EndFault) (fault : EndFault) (outcome : Outcome)
    → r ≡ Err fault
    → outcome ≡ fault_told fault → outcome ≡ end_told tell r
told_refused tell r fault outcome is told = subst (λ q. outcome ≡ end_told tell q) (sym is) told
