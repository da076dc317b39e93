-- What is seen of a store whose files may be opened again.
use Rattle.std.specs.Prelude.{◌≡◌, ℕ, zero, suc, Bool, true, false, Result, Ok, Err, None, ⊤}
use Rattle.std.proofs.Common.{subst}
use Rattle.keep.specs.Law.{MoreFailures}
use Rattle.keep.specs.Seen.{Seen, IsSound}
use Rattle.keep.specs.declared.fault.KeepFault.{KeepFault}
use Rattle.keep.specs.declared.fault.KeepFault.TheVariants.{Failed, Memory, WrongFile}
use Rattle.keep_files.specs.declared.files.Access.{Access}
use Rattle.keep_files.specs.declared.files.Access.TheVariants.{Open, Closed}

abbrev IsPositive : ℕ → Type 0
IsPositive zero = ⊥
IsPositive (suc n) = ⊤

never : {P : Type 0} → ◌≡◌ {A = ℕ} 1 0 → P
never none = absurd (subst IsPositive none tt)

module _ {T : Type 0} where
  -- of an open store, what it shows; where nothing is told of its files any more, it is in doubt
  abbrev pub seen_open : Bool → Seen T → Seen T
  seen_open true s = s
  seen_open false s = record s { doubt = 1 }

  -- of closed files, no tables, and nothing is told of what they hold
  abbrev pub seen_closed : T → ℕ → Seen T
  seen_closed none failures =
      record { tables = none; may_leave = λ _. ⊤; failures = failures; usable = false; doubt = 1; armed = None }

  -- of either, where `none` are no tables
  abbrev pub seen_by : {K F : Type 0} → (K → Seen T) → T → Bool → ℕ → Access K F → Seen T
  seen_by seen none told failures (Open k) = seen_open told (seen k)
  seen_by seen none told failures (Closed _) = seen_closed none failures

  sound_open : (told : Bool) (s : Seen T) → IsSound s → IsSound (seen_open told s)
  sound_open true s sound = sound
  sound_open false s sound =
      record { only_now = λ none. never none; stays = λ none. never none; leaves = λ none. never none }

  -- what holds of the open store while there is no doubt holds of it; a ghost field names it
  pub sound_by : {K F : Type 0} (seen : K → Seen T) (none : T) (told : Bool) (failures : ℕ)
      → ((k : K) → IsSound (seen k)) → (a : Access K F) → IsSound (seen_by seen none told failures a)
  sound_by seen none told failures sound (Open k) = sound_open told (seen k) (sound k)
  sound_by seen none told failures sound (Closed f) =
      record { only_now = λ none. never none; stays = λ none. never none; leaves = λ none. never none }

-- the failures after a reopening that answered this: one more where it failed
abbrev pub AreCounted : Result Unit KeepFault → ℕ → ℕ → Type 0
AreCounted (Ok _) before after = after ≡ before
AreCounted (Err Memory) before after = after ≡ before
AreCounted (Err Failed) before after = MoreFailures before after
AreCounted (Err WrongFile) before after = ⊥
