-- What a call does to what is seen of a store.
use Rattle.std.specs.Prelude.{ℕ, ◌+◌, ◌-◌, ◌^◌, ◌≡◌, ◌≤◌, ◌⊎◌, min, true, false, Option, Some, None, Ok, Err, ⊤}
use Rattle.keep.specs.declared.faulty.Arming.{Arming}
use Rattle.keep.specs.Seen.{Seen, Cause, no_memory, failed, unusable, refused, End}

-- a failure was counted, one at least: the count rose, but may stay at 2^64 - 1; it never falls
abbrev pub MoreFailures : ℕ → ℕ → Type 0
MoreFailures before after = (before ≤ after) × (min (before + 1) (2 ^ 64 - 1) ≤ after)

-- what is armed behind calls none of which was to fail: nothing where nothing was, else the same failure, at no later
-- call
abbrev pub StaysArmed : Option Arming → Option Arming → Type 0
StaysArmed None new = new ≡ None
StaysArmed (Some was) None = ⊥
StaysArmed (Some was) (Some now) = (now.leaves ≡ was.leaves) × (now.calls ≤ was.calls)

-- and behind a failure: this was the one, or it still stands
abbrev pub MayBeMet : Option Arming → Option Arming → Type 0
MayBeMet old new = (new ≡ None) ⊎ StaysArmed old new

-- a stop leaves the old tables or the new ones, whole
abbrev pub LeavesEither : {T : Type 0} → T → T → (T → Type 0) → Type 0
LeavesEither {T} old new may_leave = (t : T) → may_leave t → (t ≡ old) ⊎ (t ≡ new)

-- a call that is refused for no reason of its own
abbrev pub Never : {F : Type 0} → F → Type 0
Never _ = ⊥

-- `E` are the stores, seen by `seen`; `old` and `new` are the store before the call and after it
module _ {E T : Type 0} (seen : E → Seen T) (old new : E) where
  -- the store was usable and is, no failure was counted, and what was armed still is
  abbrev pub IsServed : Type 0
  IsServed = ((seen old).usable ≡ true) × ((seen new).usable ≡ true) × ((seen new).failures ≡ (seen old).failures)
      × StaysArmed (seen old).armed (seen new).armed

  -- the store was usable, and a failure was counted: it isn't usable until it is reopened
  abbrev pub HasFailed : Type 0
  HasFailed =
      ((seen old).usable ≡ true) × ((seen new).usable ≡ false) × MoreFailures (seen old).failures (seen new).failures
      × MayBeMet (seen old).armed (seen new).armed

  -- the store wasn't usable, and is as it was
  abbrev pub IsRefusedUnusable : Type 0
  IsRefusedUnusable = ((seen old).usable ≡ false) × (new ≡ old)

  -- what the cause tells for which a call wasn't done, whatever the disk did; `May` are the reasons that it may have
  abbrev pub IsCallCause : {F : Type 0} → (F → Type 0) → Cause F → Type 0
  IsCallCause May no_memory = IsServed
  IsCallCause May failed = HasFailed
  IsCallCause May unusable = IsRefusedUnusable
  IsCallCause May (refused fault) = IsServed × May fault

  -- what a call tells whatever the disk did
  abbrev pub IsCall : {R F : Type 0} → (F → Type 0) → End R F → Type 0
  IsCall May (Ok _) = IsServed
  IsCall May (Err cause) = IsCallCause May cause

  -- a read that wasn't done: the tables stay, and tell why it was refused; where it failed, a stop leaves no others
  abbrev pub IsReadCause : {F : Type 0} → (T → F → Type 0) → Cause F → Type 0
  IsReadCause Why no_memory = (seen new).tables ≡ (seen old).tables
  IsReadCause Why failed = (t : T) → (seen new).may_leave t → t ≡ (seen old).tables
  IsReadCause Why unusable = ⊤
  IsReadCause Why (refused fault) = Why (seen old).tables fault × ((seen new).tables ≡ (seen old).tables)

  -- a read ends with a value that the tables give, and they stay
  abbrev pub IsRead : {R F : Type 0} → (T → R → Type 0) → (T → F → Type 0) → End R F → Type 0
  IsRead gives Why (Ok r) = gives (seen old).tables r × ((seen new).tables ≡ (seen old).tables)
  IsRead gives Why (Err cause) = IsReadCause Why cause

  -- a transaction that wasn't done: the tables stay; where it failed, a stop leaves the old ones or the new ones
  abbrev pub IsWriteCause : {F : Type 0} → (T → T) → Cause F → Type 0
  IsWriteCause to no_memory = (seen new).tables ≡ (seen old).tables
  IsWriteCause to failed = LeavesEither (seen old).tables (to (seen old).tables) (seen new).may_leave
  IsWriteCause to unusable = ⊤
  IsWriteCause to (refused _) = (seen new).tables ≡ (seen old).tables

  -- a transaction makes these changes of the tables, or none
  abbrev pub IsTransaction : {R F : Type 0} → (T → T) → End R F → Type 0
  IsTransaction to (Ok _) = (seen new).tables ≡ to (seen old).tables
  IsTransaction to (Err cause) = IsWriteCause to cause

  -- a reopening neither arms nor disarms
  abbrev pub LeavesArmed : Type 0
  LeavesArmed = (seen new).armed ≡ (seen old).armed

  -- what the cause tells for which a reopening wasn't done: the store isn't usable
  abbrev pub IsReopenCause : {F : Type 0} → Cause F → Type 0
  IsReopenCause no_memory = ((seen new).usable ≡ false) × ((seen new).failures ≡ (seen old).failures) × LeavesArmed
  IsReopenCause failed =
      ((seen new).usable ≡ false) × MoreFailures (seen old).failures (seen new).failures × LeavesArmed
  IsReopenCause unusable = ⊥
  IsReopenCause (refused _) = ⊥

  -- what a reopening tells whatever the disk did
  abbrev pub IsReopenCall : {R F : Type 0} → End R F → Type 0
  IsReopenCall (Ok _) = ((seen new).usable ≡ true) × ((seen new).failures ≡ (seen old).failures) × LeavesArmed
  IsReopenCall (Err cause) = IsReopenCause cause

  -- a reopening finds one of the tables that a stop may have left; where it isn't done a stop leaves no others
  abbrev pub IsReopening : {R F : Type 0} → End R F → Type 0
  IsReopening (Ok _) = ∥ (seen old).may_leave (seen new).tables ∥₁
  IsReopening (Err _) = (t : T) → (seen new).may_leave t → (seen old).may_leave t

  -- what a call tells: `Call` whatever the disk did, and `Clean` while no file is in doubt; doubt never falls
  pub record Tells (Call Clean : Type 0) : Type 0 where
    pub call : Call
    pub doubt : (seen old).doubt ≤ (seen new).doubt
    pub clean : (seen new).doubt ≡ 0 → Clean

  -- a read that may be refused
  abbrev pub ReadsOr : {R F : Type 0} → (T → R → Type 0) → (F → Type 0) → (T → F → Type 0) → End R F → Type 0
  ReadsOr gives May Why end = Tells (IsCall May end) (IsRead gives Why end)

  -- a read
  abbrev pub Reads : {R F : Type 0} → (T → R → Type 0) → End R F → Type 0
  Reads gives end = ReadsOr gives Never (λ _. Never) end

  -- a transaction; what it did is told where its changes fit the tables
  abbrev pub Writes : {R F : Type 0} → (T → Type 0) → (T → T) → End R F → Type 0
  Writes Fit to end = Tells (IsCall Never end) (Fit (seen old).tables → IsTransaction to end)

  -- a reopening
  abbrev pub Reopens : {R F : Type 0} → End R F → Type 0
  Reopens end = Tells (IsReopenCall end) (IsReopening end)
