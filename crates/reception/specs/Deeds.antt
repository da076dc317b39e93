-- What a service's store has of one frame that came, by what is told of it.
use Rattle.std.specs.Prelude.{◌≡◌, ◌≢◌, ◌⊎◌, ℕ, Option, Some, None, Result, Ok, Err}
use Rattle.base.specs.Entity.{Entity}
use Rattle.base.specs.declared.entity.Kind.{Kind}
use Rattle.base.specs.declared.pair.Pair.{Pair}
use Rattle.stomp_frame.specs.Frames.{Content}
use Rattle.envelope.specs.Reading.{read_frame}
use Rattle.envelope.specs.declared.message.Envelope.{Envelope}
use Rattle.envelope.specs.declared.message.Envelope.TheVariants as envelope
use Rattle.envelope.specs.declared.message.Letter.{Letter}
use Rattle.activities.specs.Journal.{handled_of}
use Rattle.activities.specs.Service.{Service}
use Rattle.keep.specs.Law.{IsServed, IsCallCause}
use Rattle.keep.specs.Seen.{Seen}
use Rattle.endpoint.specs.Arrivals.{IngestMay, SettleMay}
use Rattle.endpoint.specs.Deeds.{Kept, Deed, Nothing}
use Rattle.endpoint.specs.Faults.{end_cause}
use Rattle.endpoint.specs.declared.answer.Ingested.{Ingested}
use Rattle.endpoint.specs.declared.answer.Ingested.TheVariants as ingested
use Rattle.endpoint.specs.declared.fault.EndFault.{EndFault}
use Rattle.endpoint.specs.declared.fault.EndFault.TheVariants.{NotMine, TooEarly, NumberLimit, NotSent}
use Rattle.reception.specs.Replies.{settled_again}
use Rattle.reception.specs.declared.fault.ReceptionFault.{ReceptionFault}
use Rattle.reception.specs.declared.fault.ReceptionFault.TheVariants.{End}
use Rattle.reception.specs.declared.taken.Taken.{Taken}
use Rattle.reception.specs.declared.taken.Taken.TheVariants.{Handled, Repeated, Held, Settled}

module _ {S C : Type 0} (service : Service S C) (f : Content) where
  -- the letter that the frame carries is answered so, and this is done
  abbrev pub LetterMay : Result Ingested EndFault → Kept C → Deed C → Type 0
  LetterMay r x d = (l : Letter) × (read_frame f ≡ Some (envelope.Letter l)) × IngestMay service l r x d

  -- the settle that it carries is answered so
  abbrev pub MarkMay : Result ℕ EndFault → Kept C → Deed C → Type 0
  MarkMay r x d = (pair : Pair) × (number : ℕ) × (read_frame f ≡ Some (envelope.Settle pair number))
      × SettleMay service pair number r x d

  -- What is done with a frame. A letter that comes again tells up to where its pair is settled then. What isn't a
  -- letter or a settle does nothing to the store.
  abbrev pub TakeMay : Result Taken ReceptionFault → Kept C → Deed C → Type 0
  TakeMay (Ok (Handled position)) x d = LetterMay (Ok (ingested.Handled position)) x d
  TakeMay (Ok (Repeated number)) x d = (l : Letter) × (read_frame f ≡ Some (envelope.Letter l))
      × IngestMay service l (Ok (ingested.Repeated (handled_of x.journal l.pair))) x d
      × (number ≡ settled_again l.number (handled_of x.journal l.pair))
  TakeMay (Ok Held) x d = LetterMay (Ok ingested.Held) x d
  TakeMay (Ok (Settled mark)) x d = MarkMay (Ok mark) x d
  TakeMay (Err (End fault)) x d = LetterMay (Err fault) x d ⊎ MarkMay (Err fault) x d
  TakeMay _ x d = d ≡ Nothing

-- the entity that an envelope concerns: the receiver of a letter, the sender of what is settled
abbrev pub concerned : Option Envelope → Option Entity
concerned (Some (envelope.Letter l)) = Some l.pair.to
concerned (Some (envelope.Settle pair number)) = Some pair.from
concerned None = None

-- a frame concerns an entity of this kind, or one of another
abbrev pub IsOurs : Kind → Content → Type 0
IsOurs kind f = (e : Entity) × (concerned (read_frame f) ≡ Some e) × (e.kind ≡ kind)

abbrev pub IsAnothers : Kind → Content → Type 0
IsAnothers kind f = (e : Entity) × (concerned (read_frame f) ≡ Some e) × (e.kind ≢ kind)

-- why the endpoint may refuse what a frame carries, whatever the disk did: that it's another service's, or something
-- else of what is ours
abbrev pub MayTurnBack : Kind → Content → EndFault → Type 0
MayTurnBack kind f NotMine = IsAnothers kind f
MayTurnBack kind f TooEarly = IsOurs kind f
MayTurnBack kind f NumberLimit = IsOurs kind f
MayTurnBack kind f NotSent = IsOurs kind f
MayTurnBack kind f _ = ⊥

-- What is told of the store's use, whatever the disk did: a fault of the endpoint says what became of it, a letter or a
-- settle that was taken was served and is ours, and else it wasn't called, or was read.
abbrev pub TellsOfUse : {E T : Type 0} → (E → Seen T) → Kind → Content → (old new : E) → Result Taken ReceptionFault
    → Type 0
TellsOfUse seen kind f old new (Ok (Handled _)) = IsServed seen old new × IsOurs kind f
TellsOfUse seen kind f old new (Ok (Repeated _)) = IsServed seen old new × IsOurs kind f
TellsOfUse seen kind f old new (Ok Held) = IsServed seen old new × IsOurs kind f
TellsOfUse seen kind f old new (Ok (Settled _)) = IsServed seen old new × IsOurs kind f
TellsOfUse seen kind f old new (Ok _) = new ≡ old
TellsOfUse seen kind f old new (Err (End fault)) = IsCallCause seen old new (MayTurnBack kind f) (end_cause fault)
TellsOfUse seen kind f old new (Err _) = (new ≡ old) ⊎ IsServed seen old new
