-- What a service does with its held letters.
use Rattle.std.specs.Prelude.{◌≡◌, ◌⊎◌, ℕ, List, [], ◌∷◌, Option, Some, None, Result, Ok, Err, ⊤}
use Rattle.base.specs.declared.pair.Pair.{Pair}
use Rattle.stomp_frame.specs.Frames.{Content}
use Rattle.stomp_client.specs.Clients.{Client}
use Rattle.stomp_client.specs.declared.session.Stage.{Stage}
use Rattle.stomp_client.specs.declared.session.Stage.TheVariants as stage
use Rattle.envelope.specs.Written.{send_of}
use Rattle.envelope.specs.declared.message.Envelope.TheVariants.{Settle}
use Rattle.activities.specs.Journal.{handled_of}
use Rattle.activities.specs.Service.{Service}
use Rattle.keep.specs.Law.{IsServed, IsCallCause}
use Rattle.keep.specs.Listing.{IsDrainable, next_held}
use Rattle.keep.specs.Seen.{Seen}
use Rattle.endpoint.specs.Arrivals.{DrainMay}
use Rattle.endpoint.specs.Deeds.{Kept, Deed, Nothing}
use Rattle.endpoint.specs.Faults.{end_cause}
use Rattle.endpoint.specs.declared.fault.EndFault.{EndFault}
use Rattle.endpoint.specs.declared.fault.EndFault.TheVariants.{NotMine, NumberLimit, StoreFailed, Memory, Unusable}
use Rattle.reception.specs.Faults.{IsWant}
use Rattle.reception.specs.Replies.{Writes}
use Rattle.reception.specs.declared.fault.ReceptionFault.{ReceptionFault}
use Rattle.reception.specs.declared.fault.ReceptionFault.TheVariants.{End}
use Rattle.reception.specs.declared.taken.Drained.{Drained}

-- the first pair whose next letter is held, or none
abbrev pub IsFirstHeld : {C : Type 0} → Kept C → Option Pair → Type 0
IsFirstHeld x = IsDrainable (next_held x.held (handled_of x.journal))

-- why a read may not be done
abbrev pub IsOfRead : EndFault → Type 0
IsOfRead StoreFailed = ⊤
IsOfRead Memory = ⊤
IsOfRead Unusable = ⊤
IsOfRead _ = ⊥

module _ {S C : Type 0} (service : Service S C) where
  -- what is done with the next letter of the first pair that has it held
  abbrev pub DrainsMay : Result (Option Drained) ReceptionFault → Kept C → Deed C → Type 0
  DrainsMay (Ok (Some drained)) x d =
      IsFirstHeld x (Some drained.pair) × DrainMay service drained.pair (Ok (Some drained.number)) x d
  DrainsMay (Ok None) x d = (d ≡ Nothing) × IsFirstHeld x None
  DrainsMay (Err (End fault)) x d = (IsOfRead fault × (d ≡ Nothing))
      ⊎ ((pair : Pair) × IsFirstHeld x (Some pair) × DrainMay service pair (Err fault) x d)
  DrainsMay (Err _) x d = d ≡ Nothing

-- why a held letter may not be handled, whatever the disk did; that it is another service's is told of the tables, by
-- the deed
abbrev pub OfDraining : EndFault → Type 0
OfDraining NotMine = ⊤
OfDraining NumberLimit = ⊤
OfDraining _ = ⊥

-- what is told of the store's use, whatever the disk did
abbrev pub TellsOfDraining : {E T R : Type 0} → (E → Seen T) → (old new : E) → Result R ReceptionFault → Type 0
TellsOfDraining seen old new (Err (End fault)) = IsCallCause seen old new OfDraining (end_cause fault)
TellsOfDraining seen old new _ = IsServed seen old new

-- why it isn't done: the endpoint tells, or memory was refused before the letter was touched
abbrev pub IsUndrained : ReceptionFault → Type 0
IsUndrained (End _) = ⊤
IsUndrained fault = IsWant fault

-- a connected client tells how far the pair of a letter that was handled is settled, in no transaction
abbrev pub settle_after : Stage → Drained → List Content
settle_after stage.Connected drained = send_of (Settle drained.pair drained.number) ∷ []
settle_after _ drained = []

-- what the client writes, by what is told
abbrev pub DrainWrites : (old new : Client ℕ) → Result (Option Drained) ReceptionFault → Type 0
DrainWrites old new (Ok (Some drained)) = Writes (settle_after old.stage drained) old new
DrainWrites old new (Ok None) = new ≡ old
DrainWrites old new (Err fault) = IsUndrained fault × (new ≡ old)
