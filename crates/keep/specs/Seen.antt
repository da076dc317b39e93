-- What callers see of a store, and how its calls end.
use Rattle.std.specs.Prelude.{◌≡◌, ℕ, Bool, true, Option, Result, Ok, Err}
use Rattle.keep.specs.declared.fault.KeepFault.{KeepFault}
use Rattle.keep.specs.declared.fault.KeepFault.TheVariants.{Failed, Memory, WrongFile}
use Rattle.keep.specs.declared.faulty.Arming.{Arming}

-- what callers see of a store with tables `T`
pub record Seen (T : Type 0) : Type 1 where
  -- the tables now
  pub tables : T
  -- the tables that a stop may leave, and a reopening then finds
  pub may_leave : T → Type 0
  -- how many failures were counted
  pub failures : ℕ
  -- whether reads and transactions may be called
  pub usable : Bool
  -- 0 while the files below gave back what was written to them; in memory it is always 0
  pub doubt : ℕ
  -- the failure that it was told to have, and that hasn't come yet; a store that isn't told to fail has none
  pub armed : Option Arming

-- while no file is in doubt a stop leaves some tables, and of a usable keep the tables now and no others
pub record IsSound {T : Type 0} (s : Seen T) : Type 0 where
  pub only_now : s.doubt ≡ 0 → s.usable ≡ true → (t : T) → s.may_leave t → t ≡ s.tables
  pub stays : s.doubt ≡ 0 → s.usable ≡ true → s.may_leave s.tables
  pub leaves : s.doubt ≡ 0 → ∥ ((t : T) × s.may_leave t) ∥₁

-- why a call didn't do its work, whatever its faults are called: memory was refused, or the store failed, or it had
-- failed before, or for a reason of the call's own
pub data Cause (F : Type 0) : Type 0 where
  no_memory : Cause F
  failed : Cause F
  unusable : Cause F
  refused : F → Cause F

-- how a call ends: with a value, or for a cause
abbrev pub End : Type 0 → Type 0 → Type 0
End R F = Result R (Cause F)

-- the cause that a store's fault tells
abbrev pub keep_cause : KeepFault → Cause KeepFault
keep_cause Memory = no_memory
keep_cause Failed = failed
keep_cause WrongFile = refused WrongFile

-- the end of a store's call
abbrev pub keep_end : {R : Type 0} → Result R KeepFault → End R KeepFault
keep_end (Ok r) = Ok r
keep_end (Err fault) = Err (keep_cause fault)
