-- A store that fails where it is told to.
use Rattle.std.specs.Prelude.{◌≡◌, ℕ, ◌+◌, not, ◌&&◌, ◌-◌, ◌^◌, min, nat_le, Bool, Option, Some, None, Result, Ok, Err}
use Rattle.std.specs.Prelude.{if◌then◌else◌, ⊤}
use Rattle.keep.specs.declared.fault.KeepFault.{KeepFault}
use Rattle.keep.specs.declared.fault.KeepFault.TheVariants.{Failed, Memory, WrongFile}
use Rattle.keep.specs.declared.faulty.Arming.{Arming}
use Rattle.keep.specs.declared.faulty.Leaves.{Leaves}
use Rattle.keep.specs.declared.faulty.Leaves.TheVariants.{Old, New}
use Rattle.keep.specs.Law.{LeavesEither, Never, IsCall, IsReopenCall, Reads, Writes, Reopens}
use Rattle.keep.specs.Seen.{Seen, keep_end}

-- a store, and how it is to fail
pub record Failing (K : Type 0) : Type 0 where
  -- the store inside
  pub keep : K
  -- which call from now on fails, if one does
  pub armed : Option Arming
  -- whether a call failed because it was armed, since a reopening was last asked for
  pub is_down : Bool
  -- how many calls failed because they were armed
  pub failures : ℕ

-- what the next call leaves, where it is the one that fails
abbrev pub due : Option Arming → Option Leaves
due None = None
due (Some a) = if nat_le a.calls 1 then Some a.leaves else None

-- the arming after that call
abbrev pub counted_down : Option Arming → Option Arming
counted_down None = None
counted_down (Some a) = if nat_le a.calls 1 then None else Some (record a { calls = a.calls - 1 })

-- what callers see of it, from what they see of the store inside
abbrev pub through : {K T : Type 0} → (K → Seen T) → Failing K → Seen T
through seen f = record (seen f.keep) {
  failures = f.failures + (seen f.keep).failures;
  usable = not f.is_down && (seen f.keep).usable;
  armed = f.armed;
}

-- a stop leaves these tables and no others
abbrev pub LeavesOnly : {T : Type 0} → T → (T → Type 0) → Type 0
LeavesOnly {T} only may_leave = (t : T) → may_leave t → t ≡ only

-- what a stop may leave after a transaction that was to leave the new tables, by the answer of the store inside
abbrev pub LeavesNew : {T : Type 0} → T → T → (T → Type 0) → Result Unit KeepFault → Type 0
LeavesNew old new may_leave (Ok _) = LeavesOnly new may_leave
LeavesNew old new may_leave (Err Memory) = LeavesOnly old may_leave
LeavesNew old new may_leave (Err Failed) = LeavesEither old new may_leave
LeavesNew old new may_leave (Err WrongFile) = ⊥

-- what a stop may leave after a transaction that was due to fail: `IsAnswer` holds of the answer of the store inside,
-- where it was asked
abbrev pub IsLeft : {T : Type 0} → Option Leaves → T → T → (T → Type 0) → (Result Unit KeepFault → Type 0) → Type 0
IsLeft None old new may_leave IsAnswer = ⊤
IsLeft (Some Old) old new may_leave IsAnswer = LeavesOnly old may_leave
IsLeft (Some New) old new may_leave IsAnswer =
    (answer : Result Unit KeepFault) × IsAnswer answer × LeavesNew old new may_leave answer

-- a call of a failing keep
module _ {K T : Type 0} (seen : K → Seen T) (old new : Failing K) where
  -- it failed because it was armed, which is counted once; the count stays at 2^64 - 1
  abbrev pub FailsArmed : {R : Type 0} → Result R KeepFault → Type 0
  FailsArmed result = (result ≡ Err Failed) × (new.failures ≡ min (old.failures + 1) (2 ^ 64 - 1))

  -- and the store inside wasn't asked
  abbrev pub FailsUnasked : {R : Type 0} → Result R KeepFault → Type 0
  FailsUnasked result = FailsArmed result × (new.keep ≡ old.keep)

  -- it failed only if the store inside did
  abbrev pub FailsAsInside : {R : Type 0} → Result R KeepFault → Type 0
  FailsAsInside result = (new.failures ≡ old.failures) × IsCall seen old.keep new.keep Never (keep_end result)

  -- what a read does where it is due to fail, and where it isn't
  abbrev pub IsReadDue : {R : Type 0} → Option Leaves → Result R KeepFault → Type 0
  IsReadDue (Some _) result = FailsUnasked result
  IsReadDue None result = FailsAsInside result

  -- what a transaction does: it asks the store inside where it is to leave the new tables
  abbrev pub IsTransactionDue : Option Leaves → Result Unit KeepFault → Type 0
  IsTransactionDue (Some Old) result = FailsUnasked result
  IsTransactionDue (Some New) result = FailsArmed result
  IsTransactionDue None result = FailsAsInside result

  -- a read, of a store and as it was armed
  pub record ReadsDue {R : Type 0} (gives : T → R → Type 0) (result : Result R KeepFault) : Type 0 where
    pub reads : Reads (through seen) old new gives (keep_end result)
    pub armed : new.armed ≡ counted_down old.armed
    pub fails : IsReadDue (due old.armed) result

  -- a transaction, of a store and as it was armed
  pub record WritesDue (Fit : T → Type 0) (to : T → T) (result : Result Unit KeepFault) : Type 0 where
    pub writes : Writes (through seen) old new Fit to (keep_end result)
    pub armed : new.armed ≡ counted_down old.armed
    pub fails : IsTransactionDue (due old.armed) result
    pub left : (seen new.keep).doubt ≡ 0 → Fit (seen old.keep).tables
        → IsLeft (due old.armed) (seen old.keep).tables (to (seen old.keep).tables) (seen new.keep).may_leave
        (λ answer. IsCall seen old.keep new.keep Never (keep_end answer))

  -- a reopening is that of the store inside
  pub record ReopensThrough (result : Result Unit KeepFault) : Type 0 where
    pub reopens : Reopens (through seen) old new (keep_end result)
    pub armed : new.armed ≡ old.armed
    pub passes : (new.failures ≡ old.failures) × IsReopenCall seen old.keep new.keep (keep_end result)
