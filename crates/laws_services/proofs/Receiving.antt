-- From what is told of a frame that came to the step that it is.
use Rattle.std.proofs.Common.{◌≡◌, ℕ, ◌≤◌, ◌⊎◌, Bool, true, false, inl, inr, List, Option, Some, None, Result, Ok, Err}
use Rattle.std.proofs.Common.{sym, subst, arith}
use Rattle.std.specs.Prelude.{Contains, if◌then◌else◌}
use Rattle.base.specs.Number.{is_number}
use Rattle.base.specs.declared.pair.Pair.{Pair}
use Rattle.stomp_frame.specs.Frames.{Content}
use Rattle.envelope.specs.Reading.{read_frame}
use Rattle.envelope.specs.declared.message.Envelope.{Envelope}
use Rattle.envelope.specs.declared.message.Envelope.TheVariants as envelope
use Rattle.envelope.specs.declared.message.Letter.{Letter}
use Rattle.activities.specs.Journal.{handled_of}
use Rattle.activities.specs.Service.{Service}
use Rattle.activities.proofs.Sameness.{either}
use Rattle.keep.specs.Seen.{Seen}
use Rattle.keep.specs.Tables.{Tables}
use Rattle.endpoint.specs.Arrivals.{IngestMay, DrainMay}
use Rattle.endpoint.specs.Calls.{ComesBy, StillMatches}
use Rattle.endpoint.specs.Deeds.{Kept, kept, Deed, Nothing}
use Rattle.endpoint.specs.declared.answer.Ingested.{Ingested}
use Rattle.endpoint.specs.declared.answer.Ingested.TheVariants as ingested
use Rattle.endpoint.specs.declared.fault.EndFault.{EndFault}
use Rattle.reception.specs.Deeds.{TakeMay, LetterMay, MarkMay}
use Rattle.reception.specs.Draining.{DrainsMay}
use Rattle.reception.specs.declared.fault.ReceptionFault.{ReceptionFault}
use Rattle.reception.specs.declared.fault.ReceptionFault.TheVariants.{Frame, Client, Envelope as Unread, End}
use Rattle.reception.specs.declared.taken.Drained.{Drained}
use Rattle.reception.specs.declared.taken.Taken.{Taken}
use Rattle.reception.specs.declared.taken.Taken.TheVariants.{Connected, Receipt, Error, Handled, Repeated, Held, Settled}
use Rattle.laws_stores.specs.Good.{IsHeldIn}
use Rattle.laws_stores.proofs.Founded.{nothing_is, ingest_is, settle_is, drain_is}
use Rattle.laws_stores.proofs.Writing.{handled_true, repeated_true, drained_true}
use Rattle.laws_services.specs.Steps.{IsFounded, Does, TakesLetter, MayWrite}
use Rattle.laws_services.specs.Frames.{CarriesWritten, IsOfLetter}
use Rattle.laws_services.proofs.Contracts.{does_more, takes_more}

module _ {S C : Type 0} (service : Service S C) where
  -- ---- what is done with a frame is done with the letter or the settle that it carries, or it's nothing

  abbrev Carried : Content → Kept C → Deed C → Type 0
  Carried f x d = (d ≡ Nothing)
      ⊎ ((r : Result Ingested EndFault) × LetterMay service f r x d)
      ⊎ ((r : Result ℕ EndFault) × MarkMay service f r x d)

  nothing : (written : List Envelope) (x : Kept C) (d : Deed C) → d ≡ Nothing → IsFounded written x d
  nothing written x d is = nothing_is service (λ e. Contains written e ⊎ IsHeldIn x.held e) d is

  held : (written : List Envelope) (p : Pair) (r : Result (Option ℕ) EndFault) (x : Kept C) (d : Deed C)
      → DrainMay service p r x d
      → IsFounded written x d
  held written p r x d may =
      drain_is service (λ e. Contains written e ⊎ IsHeldIn x.held e) p r x d (λ e there. inr there) may

  letter : (f : Content) (r : Result Ingested EndFault) (x : Kept C) (d : Deed C) → LetterMay service f r x d
      → Carried f x d
  letter f r x d may = inr (inl (r, may))

  carried : (f : Content) (r : Result Taken ReceptionFault) (x : Kept C) (d : Deed C) → TakeMay service f r x d
      → Carried f x d
  carried f (Ok (Handled position)) x d may = letter f (Ok (ingested.Handled position)) x d may
  carried f (Ok (Repeated number)) x d may =
      letter f (Ok (ingested.Repeated (handled_of x.journal may.0.pair))) x d (may.0, may.1, may.2)
  carried f (Ok Held) x d may = letter f (Ok ingested.Held) x d may
  carried f (Ok (Settled mark)) x d may = inr (inr (Ok mark, may))
  carried f (Ok Connected) x d may = inl may
  carried f (Ok (Receipt number)) x d may = inl may
  carried f (Ok (Error text)) x d may = inl may
  carried f (Err (End fault)) x d may = either may (letter f (Err fault) x d) (λ mark. inr (inr (Err fault, mark)))
  carried f (Err (Frame fault)) x d may = inl may
  carried f (Err (Client fault)) x d may = inl may
  carried f (Err (Unread fault)) x d may = inl may

  founded : (written : List Envelope) (f : Content) → CarriesWritten written f → (x : Kept C) (d : Deed C)
      → Carried f x d
      → IsFounded written x d
  founded written f all x d h = either h
      (nothing written x d)
      (λ more. either more
      (λ l. ingest_is service (λ e. Contains written e ⊎ IsHeldIn x.held e) l.1.0
      (inl (all (envelope.Letter l.1.0) l.1.1)) l.0 x d l.1.2)
      (λ m. settle_is service (λ e. Contains written e ⊎ IsHeldIn x.held e) m.1.0 m.1.1
      (inl (all (envelope.Settle m.1.0 m.1.1) m.1.2)) m.0 x d m.1.3))

  drained : (written : List Envelope) (r : Result (Option Drained) ReceptionFault) (x : Kept C) (d : Deed C)
      → DrainsMay service r x d
      → IsFounded written x d
  drained written (Ok (Some one)) x d may = held written one.pair (Ok (Some one.number)) x d may.1
  drained written (Ok None) x d may = nothing written x d may.0
  drained written (Err (End fault)) x d may =
      either may (λ none. nothing written x d none.1) (λ h. held written h.0 (Err fault) x d h.2)
  drained written (Err (Frame fault)) x d may = nothing written x d may
  drained written (Err (Client fault)) x d may = nothing written x d may
  drained written (Err (Unread fault)) x d may = nothing written x d may

-- ---- how far a letter that came again is settled

again_low : (n handled : ℕ) (b : Bool) → n ≤ handled → (if b then handled else n) ≤ handled
again_low n handled true low = omega arith
again_low n handled false low = low

one_letter : (o : Option Envelope) (l k : Letter) → o ≡ Some (envelope.Letter l) → o ≡ Some (envelope.Letter k) → l ≡ k
one_letter o l k a b = cc

module _ {E S C : Type 0} (seen : E → Seen (Tables S C)) (service : Service S C) (old new : E) (f : Content) where
  pub frame_does : (written : List Envelope) (r : Result Taken ReceptionFault) → (seen old).doubt ≤ (seen new).doubt
      → ComesBy seen old new service (TakeMay service f r) → StillMatches seen old new service
      → CarriesWritten written f
      → Does seen service (IsFounded written) old new
  frame_does written r doubt comes matches all = does_more seen service old new (TakeMay service f r)
      (IsFounded written)
      (λ x d may. founded service written f all x d (carried service f r x d may)) doubt comes matches

  -- its letter was taken
  of_letter : (l : Letter) → read_frame f ≡ Some (envelope.Letter l) → (answer : Ingested) (x : Kept C) (d : Deed C)
      → LetterMay service f (Ok answer) x d
      → (given : Ingested) × IngestMay service l (Ok given) x d
  of_letter l read answer x d may = (
    answer,
    subst (λ (k : Letter). IngestMay service k (Ok answer) x d) (one_letter (read_frame f) may.0 l may.1 read) may.2,
  )

  taken_so : (l : Letter) → read_frame f ≡ Some (envelope.Letter l) → (r : Taken) → IsOfLetter r
      → (x : Kept C) (d : Deed C)
      → TakeMay service f (Ok r) x d → (answer : Ingested) × IngestMay service l (Ok answer) x d
  taken_so l read (Handled position) is x d may = of_letter l read (ingested.Handled position) x d may
  taken_so l read (Repeated number) is x d may =
      of_letter l read (ingested.Repeated (handled_of x.journal may.0.pair)) x d (may.0, may.1, may.2)
  taken_so l read Held is x d may = of_letter l read ingested.Held x d may
  taken_so l read Connected is x d may = absurd is
  taken_so l read (Receipt number) is x d may = absurd is
  taken_so l read (Settled mark) is x d may = absurd is
  taken_so l read (Error text) is x d may = absurd is

  pub frame_takes : (r : Taken) (l : Letter) → ComesBy seen old new service (TakeMay service f (Ok r)) → IsOfLetter r
      → read_frame f ≡ Some (envelope.Letter l) → TakesLetter seen service l old new
  frame_takes r l comes is read = takes_more seen service old new (TakeMay service f (Ok r)) l
      (λ x d may. taken_so l read r is x d may) comes

  pub frame_handled : (position : ℕ) (l : Letter) → ComesBy seen old new service (TakeMay service f (Ok (Handled position)))
      → read_frame f ≡ Some (envelope.Letter l) → MayWrite seen service old new (envelope.Settle l.pair l.number)
  frame_handled position l comes read clean match t may =
      let c = comes clean match t may in
      subst (λ (k : Letter). k.number ≤ handled_of t.journal k.pair)
      (one_letter (read_frame f) c.may.0 l c.may.1 read)
      (handled_true service (kept c.before) (kept t) c.deed c.did c.may.0 position c.may.2)

  pub frame_repeated : (number : ℕ) (l : Letter) → ComesBy seen old new service (TakeMay service f (Ok (Repeated number)))
      → read_frame f ≡ Some (envelope.Letter l) → MayWrite seen service old new (envelope.Settle l.pair number)
  frame_repeated number l comes read clean match t may =
      let c = comes clean match t may in
      let handled = handled_of c.before.journal c.may.0.pair in
      let low : number ≤ handled =
      subst (λ k. k ≤ handled) (sym c.may.3) (again_low c.may.0.number handled (is_number handled) c.may.2.1) in
      subst (λ (k : Letter). number ≤ handled_of t.journal k.pair)
      (one_letter (read_frame f) c.may.0 l c.may.1 read)
      (repeated_true service (kept c.before) (kept t) c.deed c.did c.may.0.pair number low)

-- ---- held letters

module _ {E S C : Type 0} (seen : E → Seen (Tables S C)) (service : Service S C) (old new : E) where
  pub drained_does : (written : List Envelope) (r : Result (Option Drained) ReceptionFault)
      → (seen old).doubt ≤ (seen new).doubt
      → ComesBy seen old new service (DrainsMay service r) → StillMatches seen old new service
      → Does seen service (IsFounded written) old new
  drained_does written r doubt comes matches = does_more seen service old new (DrainsMay service r) (IsFounded written)
      (λ x d may. drained service written r x d may) doubt comes matches

  pub drained_handled : (one : Drained) → ComesBy seen old new service (DrainsMay service (Ok (Some one)))
      → MayWrite seen service old new (envelope.Settle one.pair one.number)
  drained_handled one comes clean match t may =
      let c = comes clean match t may in
      drained_true service (kept c.before) (kept t) c.deed c.did one.pair one.number c.may.1
