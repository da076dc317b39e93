-- What one side does with an event, as its tables show it.
use Rattle.std.specs.Prelude.{◌≡◌, ℕ, ◌≤◌, List, [], ◌∷◌, ◌++◌, length, map, Some, None, Result, Ok, slice_get, ⊤}
use Rattle.base.specs.declared.limits.TheConstants.{SEATS}
use Rattle.base.specs.declared.pair.Pair.{Pair}
use Rattle.envelope.specs.declared.message.Envelope.{Envelope}
use Rattle.envelope.specs.declared.message.Envelope.TheVariants as envelope
use Rattle.envelope.specs.declared.message.Letter.{Letter}
use Rattle.activities.specs.declared.input.Input.TheVariants.{FromSeat}
use Rattle.activities.specs.Journal.{handled_of}
use Rattle.activities.specs.Service.{Service}
use Rattle.keep.specs.Listing.{AreFirst}
use Rattle.keep.specs.Law.{IsCall, IsReopenCall}
use Rattle.keep.specs.Seen.{Seen}
use Rattle.keep.specs.Tables.{Tables}
use Rattle.outbox.specs.Rows.{unsettled_of}
use Rattle.endpoint.specs.Arrivals.{IngestMay, DrainMay, SettleMay}
use Rattle.endpoint.specs.Deeds.{Kept, kept, Deed, Nothing, Did, CommitMay}
use Rattle.endpoint.specs.Faults.{end_of}
use Rattle.endpoint.specs.declared.fault.EndFault.{EndFault}
use Rattle.endpoint.specs.Matches.{AllMatch}
use Rattle.laws_network.specs.declared.event.Delivery.{Delivery}
use Rattle.laws_network.specs.declared.event.Delivery.TheVariants.{Left, Right}
use Rattle.laws_network.specs.declared.event.Event.{Event}
use Rattle.laws_network.specs.declared.event.Event.TheVariants.{Commit, Send, Tell, Take, Drain, Reopen}
use Rattle.laws_network.specs.declared.event.Outcome.{Outcome}
use Rattle.laws_network.specs.declared.event.Outcome.TheVariants.{Committed, Sent, Told, Taken, Settled, Drained}
use Rattle.laws_network.specs.declared.event.Outcome.TheVariants.{Reopened, Missing}

module _ {S C : Type 0} (service : Service S C) where
  -- what an outcome tells of the deed, and of what was the case before it; `arriving` is all that the other side ever
  -- sent
  abbrev pub MayDo : List Envelope → Event C → Outcome → Kept C → Deed C → Type 0
  MayDo arriving (Commit seat e command) (Committed r) x d =
      CommitMay service (record { entity = e; input = FromSeat seat command }) r x d
  MayDo arriving (Commit seat e command) Missing x d = (SEATS ≤ seat) × (d ≡ Nothing)
  MayDo arriving (Send limit) (Sent r) x d = d ≡ Nothing
  MayDo arriving (Tell pair) (Told r) x d = d ≡ Nothing
  MayDo arriving (Take i) (Taken r) x d =
      (l : Letter) × (slice_get arriving i ≡ Some (envelope.Letter l)) × IngestMay service l r x d
  MayDo arriving (Take i) (Settled r) x d =
      (pair : Pair) × (n : ℕ) × (slice_get arriving i ≡ Some (envelope.Settle pair n)) × SettleMay service pair n r x d
  MayDo arriving (Take i) Missing x d = (slice_get arriving i ≡ None) × (d ≡ Nothing)
  MayDo arriving (Drain pair) (Drained r) x d = DrainMay service pair r x d
  MayDo arriving Reopen (Reopened r) x d = d ≡ Nothing
  MayDo arriving _ _ x d = ⊥

  -- what a side sends: its first unsettled letters, or how many letters of a pair it has handled; else nothing
  abbrev pub MaySend : Event C → Outcome → Kept C → (sent later : List Envelope) → Type 0
  MaySend (Send limit) (Sent (Ok n)) x sent later = (letters : List Letter)
      × AreFirst (unsettled_of service.reactions x.journal x.settled) None limit letters × (n ≡ length letters)
      × (later ≡ sent ++ map envelope.Letter letters)
  MaySend (Tell pair) (Told (Ok n)) x sent later =
      (n ≡ handled_of x.journal pair) × (later ≡ sent ++ envelope.Settle pair n ∷ [])
  MaySend _ _ x sent later = later ≡ sent

  -- one side does what the event says, and answers this
  pub record SideStep (event : Event C) (outcome : Outcome) (arriving sent later : List Envelope) (x y : Kept C) :
      Type 0
    where
      pub deed : Deed C
      pub may : MayDo arriving event outcome x deed
      pub did : Did service x deed y
      pub sends : MaySend event outcome y sent later

  -- a content then comes so of one before
  pub record CameBySideStep (event : Event C) (outcome : Outcome) (arriving sent later : List Envelope)
      (old : Tables S C → Type 0)
      (now : Tables S C) : Type 0 where
    pub before : Tables S C
    pub was : old before
    pub side : SideStep event outcome arriving sent later (kept before) (kept now)

-- where no file is in doubt, each content that a stop may leave then comes so of one that it might leave before
abbrev pub SideSteps : {E S C : Type 0} → (E → Seen (Tables S C)) → (old new : E) → Service S C → Event C → Outcome
    → (arriving sent later : List Envelope) → Type 0
SideSteps {E} {S} {C} seen old new service event outcome arriving sent later = (seen new).doubt ≡ 0
    → AllMatch service (seen old).may_leave → (t : Tables S C) → (seen new).may_leave t
    → ∥ CameBySideStep service event outcome arriving sent later (seen old).may_leave t ∥₁

-- what an answer tells of the store's use, whatever the disk did: it failed where a failure was counted, and wasn't
-- usable where that is told; else it was served
abbrev pub IsUse : {E T R : Type 0} → (E → Seen T) → (old new : E) → Result R EndFault → Type 0
IsUse seen old new r = IsCall seen old new (λ (_ : EndFault). ⊤) (end_of r)

-- and of each outcome
abbrev pub TellsOfUse : {E T : Type 0} → (E → Seen T) → (old new : E) → Outcome → Type 0
TellsOfUse seen old new (Committed r) = IsUse seen old new r
TellsOfUse seen old new (Sent r) = IsUse seen old new r
TellsOfUse seen old new (Told r) = IsUse seen old new r
TellsOfUse seen old new (Taken r) = IsUse seen old new r
TellsOfUse seen old new (Settled r) = IsUse seen old new r
TellsOfUse seen old new (Drained r) = IsUse seen old new r
TellsOfUse seen old new (Reopened r) = IsReopenCall seen old new (end_of r)
TellsOfUse seen old new Missing = new ≡ old

-- the side that acts tells so of its store, and the other's store is as it was
abbrev pub TellsOfSide : {E F T U C D : Type 0} → (E → Seen T) → (F → Seen U) → (left left' : E) → (right right' : F)
    → Delivery C D
    → Outcome → Type 0
TellsOfSide seen other_seen left left' right right' (Left event) outcome =
    TellsOfUse seen left left' outcome × (right' ≡ right)
TellsOfSide seen other_seen left left' right right' (Right event) outcome =
    TellsOfUse other_seen right right' outcome × (left' ≡ left)
