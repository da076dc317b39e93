-- What an endpoint does with letters and settles that arrive: the deed that each answer tells, and what was the case
-- before it.
use Rattle.std.specs.Prelude.{◌≡◌, ◌≢◌, ◌⊎◌, ℕ, suc, ◌+◌, ◌≤◌, ◌<◌, max, length, Option, Some, None, Result, Ok, Err}
use Rattle.base.specs.declared.limits.TheConstants.{HELD_WINDOW}
use Rattle.base.specs.declared.pair.Pair.{Pair}
use Rattle.envelope.specs.declared.message.Message.{Message}
use Rattle.envelope.specs.declared.message.Letter.{Letter}
use Rattle.activities.specs.Journal.{sent_of, handled_of}
use Rattle.activities.specs.Service.{Service}
use Rattle.activities.specs.declared.input.Input.TheVariants.{FromEntity}
use Rattle.activities.specs.declared.input.JournalRow.{JournalRow}
use Rattle.keep.specs.Tables.{Tables}
use Rattle.endpoint.specs.declared.answer.Ingested.{Ingested}
use Rattle.endpoint.specs.declared.answer.Ingested.TheVariants as ingested
use Rattle.endpoint.specs.declared.fault.EndFault.{EndFault}
use Rattle.endpoint.specs.declared.fault.EndFault.TheVariants.{NotMine, Business, TooEarly, StoreFailed, Memory}
use Rattle.endpoint.specs.declared.fault.EndFault.TheVariants.{Unusable, NumberLimit}
use Rattle.endpoint.specs.declared.fault.EndFault.TheVariants.{NotSent}
use Rattle.endpoint.specs.Answers.{PassesLimit}
use Rattle.endpoint.specs.Deeds.{Kept, kept, Deed, Nothing, TakesIn, Holds, Settles, DidWithin}

-- the journal's row of a letter that is taken in
abbrev pub row_of_letter : {C : Type 0} → Letter → JournalRow C
row_of_letter l = record { entity = l.pair.to; input = FromEntity l.pair.from l.number l.message }

-- of a pair the letter that is next and says this
abbrev pub next_letter : {C : Type 0} → Kept C → Pair → Message → Letter
next_letter x p m = record { pair = p; number = suc (handled_of x.journal p); message = m }

-- the letter is the next of its pair
abbrev pub IsNextLetter : {C : Type 0} → Kept C → Letter → Type 0
IsNextLetter x l = l.number ≡ suc (handled_of x.journal l.pair)

-- the next letter of the pair is held, and says this
abbrev pub HoldsNext : {C : Type 0} → Kept C → Pair → Message → Type 0
HoldsNext x p m = x.held p (suc (handled_of x.journal p)) ≡ Some m

module _ {S C : Type 0} (ahead : ℕ) (service : Service S C) where
  -- taking in a letter
  abbrev pub IngestMayWithin : Letter → Result Ingested EndFault → Kept C → Deed C → Type 0
  IngestMayWithin l (Ok (ingested.Handled pos)) x d = (d ≡ TakesIn (row_of_letter l)) × (pos ≡ suc (length x.journal))
  IngestMayWithin l (Ok (ingested.Repeated handled)) x d =
      (d ≡ Nothing) × (l.number ≤ handled_of x.journal l.pair) × (handled ≡ handled_of x.journal l.pair)
  IngestMayWithin l (Ok ingested.Held) x d = d ≡ Holds l
  IngestMayWithin l (Err TooEarly) x d = (d ≡ Nothing) × (handled_of x.journal l.pair + ahead < l.number)
  IngestMayWithin l (Err NumberLimit) x d =
      (d ≡ Nothing) × IsNextLetter x l × PassesLimit service.reactions x.journal (row_of_letter l)
  IngestMayWithin l (Err StoreFailed) x d = (d ≡ Nothing) ⊎ (d ≡ TakesIn (row_of_letter l)) ⊎ (d ≡ Holds l)
  IngestMayWithin l (Err Memory) x d = d ≡ Nothing
  IngestMayWithin l (Err NotMine) x d = (d ≡ Nothing) × (l.pair.to.kind ≢ service.kind)
  IngestMayWithin l (Err Unusable) x d = d ≡ Nothing
  IngestMayWithin l (Err (Business _)) x d = ⊥
  IngestMayWithin l (Err NotSent) x d = ⊥

  -- a deed of those allowed leads from what was kept to this
  abbrev pub DidAllowed : (Deed C → Type 0) → Kept C → Kept C → Type 0
  DidAllowed allowed x y = (d : Deed C) × allowed d × DidWithin ahead service x d y

  -- What a call does to the tables: a deed that its answer allows; where the store failed, in each content that a stop
  -- may leave. With an error else no table changes.
  abbrev pub IsDone : {R : Type 0} → (Result R EndFault → Kept C → Deed C → Type 0) → (old now : Tables S C)
      → (Tables S C → Type 0)
      → Result R EndFault → Type 0
  IsDone may old now may_leave (Ok r) = DidAllowed (may (Ok r) (kept old)) (kept old) (kept now)
  IsDone may old now may_leave (Err StoreFailed) = (t : Tables S C) → may_leave t
      → DidAllowed (may (Err StoreFailed) (kept old)) (kept old) (kept t)
  IsDone may old now may_leave (Err fault) = may (Err fault) (kept old) Nothing × (now ≡ old)

module _ {S C : Type 0} (service : Service S C) where
  -- the same as far ahead as the product holds letters
  abbrev pub IngestMay : Letter → Result Ingested EndFault → Kept C → Deed C → Type 0
  IngestMay l result x d = IngestMayWithin HELD_WINDOW service l result x d

  -- the next letter of a pair is held, and is taken in
  abbrev pub TakesHeld : Pair → Kept C → Deed C → Type 0
  TakesHeld p x d = (m : Message) × HoldsNext x p m × (d ≡ TakesIn (row_of_letter (next_letter x p m)))

  -- taking in the next letter of a pair, where it is held
  abbrev pub DrainMay : Pair → Result (Option ℕ) EndFault → Kept C → Deed C → Type 0
  DrainMay p (Ok (Some n)) x d = (n ≡ suc (handled_of x.journal p)) × TakesHeld p x d
  DrainMay p (Ok None) x d = (d ≡ Nothing) × (x.held p (suc (handled_of x.journal p)) ≡ None)
  DrainMay p (Err NumberLimit) x d = (d ≡ Nothing)
      × ((m : Message) × HoldsNext x p m × PassesLimit service.reactions x.journal (row_of_letter (next_letter x p m)))
  DrainMay p (Err StoreFailed) x d = (d ≡ Nothing) ⊎ TakesHeld p x d
  DrainMay p (Err Memory) x d = d ≡ Nothing
  DrainMay p (Err NotMine) x d = (d ≡ Nothing) × (p.to.kind ≢ service.kind)
  DrainMay p (Err Unusable) x d = d ≡ Nothing
  DrainMay p (Err (Business _)) x d = ⊥
  DrainMay p (Err TooEarly) x d = ⊥
  DrainMay p (Err NotSent) x d = ⊥

  -- marking what was sent on a pair as settled, up to a number: the mark is never lowered
  abbrev pub SettleMay : Pair → ℕ → Result ℕ EndFault → Kept C → Deed C → Type 0
  SettleMay p n (Ok mark) x d = (d ≡ Settles p n) × (mark ≡ max (x.settled p) n)
  SettleMay p n (Err NotSent) x d = (d ≡ Nothing) × (length (sent_of service.reactions x.journal p) < n)
  SettleMay p n (Err StoreFailed) x d = (d ≡ Nothing) ⊎ (d ≡ Settles p n)
  SettleMay p n (Err Memory) x d = d ≡ Nothing
  SettleMay p n (Err NotMine) x d = (d ≡ Nothing) × (p.from.kind ≢ service.kind)
  SettleMay p n (Err Unusable) x d = d ≡ Nothing
  SettleMay p n (Err (Business _)) x d = ⊥
  SettleMay p n (Err TooEarly) x d = ⊥
  SettleMay p n (Err NumberLimit) x d = ⊥
