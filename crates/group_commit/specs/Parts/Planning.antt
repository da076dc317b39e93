-- How the next step of a group is planned: on top of the changes of those before it, which aren't in the store yet.
use Rattle.std.specs.Prelude.{◌≡◌, ◌≢◌, ◌⊎◌, ℕ, ◌+◌, ◌<◌, ◌≤◌, Bool, true, false, List, ◌∷◌, length, Option, Some, None}
use Rattle.std.specs.Prelude.{Result, Ok, Err, IfOk, ⊤}
use Rattle.std.specs.List.{list_any}
use Rattle.std.specs.Global.{Vec}
use Rattle.base.specs.Entity.{Entity}
use Rattle.base.specs.Order.{same_entity}
use Rattle.base.specs.declared.limits.TheConstants.{MAX_NUMBER}
use Rattle.envelope.specs.declared.message.Envelope.{Envelope}
use Rattle.envelope.specs.declared.message.Envelope.TheVariants as envelope
use Rattle.envelope.specs.declared.message.Letter.{Letter}
use Rattle.activities.specs.Reaction.{react}
use Rattle.activities.specs.Rows.{state_for}
use Rattle.activities.specs.Service.{Service}
use Rattle.activities.specs.declared.input.Input.TheVariants.{FromEntity}
use Rattle.activities.specs.declared.outs.Out.{Out}
use Rattle.activities.specs.declared.handler.Refusal.{Refusal}
use Rattle.keep.specs.declared.change.Change.{Change}
use Rattle.keep.specs.declared.change.Change.TheVariants.{Journal, State, Sent, Settled, Handled, Held, NotHeld}
use Rattle.keep.specs.Law.{Writes}
use Rattle.keep.specs.Seen.{Seen}
use Rattle.keep.specs.Steps.{AreSteps}
use Rattle.keep.specs.Tables.{Tables, changed, ArePlaced}
use Rattle.keep.specs.declared.fault.KeepFault.{KeepFault}
use Rattle.keep.specs.declared.fault.KeepFault.TheVariants.{Failed, Memory, WrongFile}
use Rattle.outbox.specs.Numbering.{NumbersPass}
use Rattle.outbox.specs.declared.fault.OutboxFault.{OutboxFault}
use Rattle.outbox.specs.declared.fault.OutboxFault.TheVariants.{Store, NumberLimit}
use Rattle.endpoint.specs.Faults.{end_of}
use Rattle.endpoint.specs.Matches.{TablesMatchJournal}
use Rattle.endpoint.specs.declared.fault.EndFault.{EndFault}
use Rattle.group_commit.specs.Group.{TakesOne, TakesEach}
use Rattle.group_commit.specs.declared.grouped.Grouped.{Grouped}
use Rattle.group_commit.specs.declared.grouped.Grouped.TheVariants as grouped
use Rattle.group_commit.specs.declared.planning.PlannedStep.{PlannedStep}
use Rattle.group_commit.specs.declared.group.Group.{Group}

-- the change concerns this entity's row, what it sends, or what is sent to it
abbrev pub touches : {S C : Type 0} → Entity → Change S C → Bool
touches e (Journal position row) = false
touches e (State x row) = same_entity x e
touches e (Sent l) = same_entity l.pair.from e
touches e (Settled p n) = same_entity p.from e
touches e (Handled p n) = same_entity p.to e
touches e (Held l) = same_entity l.pair.to e
touches e (NotHeld p n) = same_entity p.to e

-- the entity that an envelope concerns: a letter's receiver, a settle's sender
abbrev pub own_of : Envelope → Entity
own_of (envelope.Letter l) = l.pair.to
own_of (envelope.Settle p n) = p.from

-- the receiver refuses a letter, or a number of what it sends would pass the limit
abbrev pub Stops : {S C : Type 0} → Result (S × List Out) Refusal → Entity → Tables S C → Type 0
Stops (Err refusal) e t = ⊤
Stops (Ok done) e t = NumbersPass t.sent e done.1

-- the first of these changes is no row of the journal
abbrev pub BeginsWithNoRow : {S C : Type 0} → List (Change S C) → Type 0
BeginsWithNoRow (Journal position row ∷ cs) = ⊥
BeginsWithNoRow cs = ⊤

module _ {S C : Type 0} (service : Service S C) where
  -- Why a letter isn't taken in after so many rows, where its receiver is of this kind and no other has changed it: it
  -- isn't the next of its pair, its row would have no number, or its receiver stops it.
  abbrev pub IsNotNext : (rows : ℕ) → Letter → Tables S C → Type 0
  IsNotNext rows l t = (l.number ≢ t.handled l.pair + 1) ⊎ (MAX_NUMBER ≤ rows)
      ⊎ Stops (react service.reactions (state_for service.reactions.opening (t.entity l.pair.to))
      (FromEntity l.pair.from l.number l.message)) l.pair.to t

  -- and why an envelope isn't: a settle's number was never sent, raises no mark, or is above the limit
  abbrev pub CantFollow : (rows : ℕ) → Envelope → Tables S C → Type 0
  CantFollow rows (envelope.Letter l) t = IsNotNext rows l t
  CantFollow rows (envelope.Settle p n) t = (t.sent p < n) ⊎ (n ≤ t.settled p) ⊎ (MAX_NUMBER < n)

-- `Follows` tells which states may follow one by an input of this sender
module _ {S C : Type 0} (service : Service S C) (Follows : Option Entity → S → S → Type 0) where
  -- A step takes in this envelope, where these changes go before it and the journal has so many rows behind them. What it
  -- sets follows what stood before, whatever the journal says. There is none only where the envelope is another service's,
  -- where these changes concern its entity, or where it can't be taken in anyway.
  abbrev pub IsStep : List (Change S C) → (rows : ℕ) → Envelope → Tables S C → Option (PlannedStep S C) → Type 0
  IsStep before rows e t None =
      ((own_of e).kind ≢ service.kind) ⊎ (list_any (touches (own_of e)) before ≡ true) ⊎ CantFollow service rows e t
  IsStep before rows e t (Some step) =
      (TablesMatchJournal service (changed before t)
      → rows ≡ length (changed before t).journal
      → TakesOne service e step.told (changed before t) (changed step.changes.items (changed before t))
      × ArePlaced step.changes.items (changed before t))
      × (BeginsWithNoRow step.changes.items × AreSteps Follows step.changes.items (changed before t))

  -- the changes take in the first of these envelopes, where the tables match their journal; and they are steps
  abbrev pub IsGathered : List Envelope → Tables S C → Group S C → Type 0
  IsGathered es t group =
      (TablesMatchJournal service t
      → TakesEach service es group.told.items t (changed group.changes.items t) × ArePlaced group.changes.items t)
      × AreSteps Follows group.changes.items t

-- how many rows the journal has behind a step, where it had so many before
abbrev pub rows_behind : ℕ → Grouped → ℕ
rows_behind rows (grouped.Handled position) = position
rows_behind rows (grouped.Settled mark) = rows

-- what a fault of numbering means for a step: there is none where no number is left, and else the store's fault
abbrev pub stopped : OutboxFault → Result Bool KeepFault
stopped NumberLimit = Ok false
stopped (Store fault) = Err fault

-- what a fault of planning makes of a group: for want of memory it's what was gathered so far
abbrev pub ended : {S C : Type 0} → Group S C → KeepFault → Result (Group S C) KeepFault
ended group Memory = Ok group
ended group Failed = Err Failed
ended group WrongFile = Err WrongFile

-- a letter is the next of its pair
abbrev pub IsNext : {S C : Type 0} → Letter → Tables S C → Type 0
IsNext l t = l.number ≡ t.handled l.pair + 1

-- the changes of a group are written, and what is told of it is answered
abbrev pub WritesGroup : {E S C : Type 0} → (E → Seen (Tables S C)) → E → E → Group S C → Result (Vec Grouped) EndFault
    → Type 0
WritesGroup seen old new group result =
    Writes seen old new (ArePlaced group.changes.items) (changed group.changes.items) (end_of result)
    × IfOk result (λ told. told ≡ group.told)
