-- Examples: a store that fails where it is told to.
use Rattle.std.proofs.Common.{◌≡◌, inl, inr, ℕ, ◌*◌, ◌^◌, ◌-◌, true, false, refl, ap, arith}
use Rattle.std.specs.Prelude.{Option, None, Some, Ok, Err}
use Rattle.keep.specs.declared.fault.KeepFault.TheVariants.{Failed, Memory, WrongFile}
use Rattle.keep.specs.declared.faulty.Arming.{Arming}
use Rattle.keep.specs.declared.faulty.Leaves.{Leaves}
use Rattle.keep.specs.declared.faulty.Leaves.TheVariants.{Old, New}
use Rattle.keep.specs.Failing.{Failing, due, counted_down, through, LeavesOnly, LeavesNew, IsLeft, FailsArmed}
use Rattle.keep.specs.Failing.{FailsUnasked, FailsAsInside}
use Rattle.keep.specs.Failing.{IsReadDue, IsTransactionDue, ReadsDue, WritesDue, ReopensThrough}
use Rattle.keep.proofs.CallExamples.{old, new, third, only, either, may_leave, Store, seen, holds, broken}

-- ---- which call fails

abbrev in_calls : ℕ → Leaves → Option Arming
in_calls calls leaves = Some (record { calls = calls; leaves = leaves })

-- armed for the second call, it doesn't fail at the first and does at the next, once; 0 is read as 1
the_second_call_fails : (due (in_calls 2 New) ≡ None) × (counted_down (in_calls 2 New) ≡ in_calls 1 New)
    × (due (in_calls 1 New) ≡ Some New) × (counted_down (in_calls 1 New) ≡ None) × (due (in_calls 0 Old) ≡ Some Old)
    × (due None ≡ None) × (counted_down None ≡ None)
the_second_call_fails = (refl, refl, refl, refl, refl, refl, refl)

-- a store that failed three times by itself, over one that is usable and failed four times
abbrev over : Store → Option Arming → Failing Store
over store armed = record { keep = store; armed = armed; is_down = false; failures = 3 }

-- the same, once it failed because it was armed
abbrev downed : Store → Option Arming → Failing Store
downed store armed = record (over store armed) { is_down = true; failures = 4 }

-- both counts are seen, and both are to be usable; the tables are those inside
both_are_seen : ((through seen (over (holds old) None)).failures ≡ 7)
    × ((through seen (over (holds old) None)).usable ≡ true)
    × ((through seen (downed (holds old) None)).usable ≡ false)
    × ((through seen (over (broken (only old)) None)).usable ≡ false)
    × ((through seen (over (holds old) None)).tables ≡ old)
both_are_seen = (refl, refl, refl, refl, refl)

-- ---- what is left

-- a stop leaves what was chosen: the new tables where they were made, the old ones where memory was refused, either
-- where that failed too
the_chosen_is_left : LeavesOnly old (may_leave (only old)) × LeavesNew old new (may_leave (only new)) (Ok tt)
    × LeavesNew old new (may_leave (only old)) (Err Memory)
    × LeavesNew old new (may_leave (either old new)) (Err Failed)
the_chosen_is_left = (λ t h. h, λ t h. h, λ t h. h, λ t h. h)

-- and no others
no_other_is_left : (LeavesOnly old (may_leave (either old new)) → ⊥)
    × (LeavesNew old new (may_leave (only old)) (Ok tt) → ⊥)
    × (LeavesNew old new (may_leave (only new)) (Err Memory) → ⊥)
    × (LeavesNew old new (may_leave (only third)) (Err Failed) → ⊥)
    × (LeavesNew old new (may_leave (only old)) (Err WrongFile) → ⊥)
no_other_is_left = (
  λ h. let e = h new (inr refl) in omega (arith, e),
  λ h. let e = h old refl in omega (arith, e),
  λ h. let e = h new refl in omega (arith, e),
  λ h. let e = h third refl in elim e [ inl one ↦ omega (arith, one) | inr two ↦ omega (arith, two) ],
  λ h. h,
)

-- a transaction that isn't due to fail may leave anything; of one that is, the old tables or those of the answer inside
what_is_due_is_left : IsLeft None old new (may_leave (only third)) (λ answer. ⊥)
    × IsLeft (Some Old) old new (may_leave (only old)) (λ answer. ⊥)
    × IsLeft (Some New) old new (may_leave (only new)) (λ answer. answer ≡ Ok tt)
    × (IsLeft (Some Old) old new (may_leave (only new)) (λ answer. ⊥) → ⊥)
    × (IsLeft (Some New) old new (may_leave (only old)) (λ answer. answer ≡ Ok tt) → ⊥)
    × (IsLeft (Some New) old new (may_leave (only new)) (λ answer. ⊥) → ⊥)
what_is_due_is_left =
    (tt, λ t h. h, (Ok tt, refl, λ t h. h), λ h. let e = h new refl in omega (arith, e), not_old, λ h. h.1)
  where
    not_old : IsLeft (Some New) old new (may_leave (only old)) (λ answer. answer ≡ Ok tt) → ⊥
    not_old (Ok _, is, left) = let e = left old refl in omega (arith, e)
    not_old (Err fault, is, left) = absurd (cc)

-- ---- how armed calls end

-- it failed and was counted once, and the count stays at its last value; it isn't Ok, nor counted twice or not at all
an_armed_call_fails : FailsArmed seen (over (holds old) (in_calls 1 Old)) (downed (holds old) None) {R = ℕ} (Err Failed)
    × FailsArmed seen (record (over (holds old) None) { failures = 2 ^ 64 - 1 })
    (record (downed (holds old) None) { failures = 2 ^ 64 - 1 }) {R = ℕ} (Err Failed)
    × (FailsArmed seen (over (holds old) (in_calls 1 Old)) (downed (holds old) None) {R = ℕ} (Ok 10) → ⊥)
    × (FailsArmed seen (over (holds old) (in_calls 1 Old)) (record (downed (holds old) None) { failures = 5 }) {R = ℕ}
    (Err Failed) → ⊥)
    × (FailsArmed seen (over (holds old) (in_calls 1 Old)) (over (holds old) None) {R = ℕ} (Err Failed) → ⊥)
an_armed_call_fails = (
  (refl, refl),
  (refl, refl),
  λ h. let e = h.0 in absurd (cc),
  λ h. let e = h.1 in omega (arith, e),
  λ h. let e = h.1 in omega (arith, e),
)

-- the store inside wasn't asked where it is as it was; where it was asked, only what it says is told
the_store_is_asked_or_not : FailsUnasked seen (over (holds old) (in_calls 1 Old)) (downed (holds old) None) {R = ℕ}
    (Err Failed)
    × (FailsUnasked seen (over (holds old) (in_calls 1 Old)) (downed (holds new) None) {R = ℕ} (Err Failed) → ⊥)
    × FailsAsInside seen (over (holds old) None) (over (holds old) None) {R = ℕ} (Ok 10)
    × FailsAsInside seen (over (holds old) None) (over (broken (only old)) None) {R = ℕ} (Err Failed)
    × (FailsAsInside seen (over (holds old) None) (over (holds old) None) {R = ℕ} (Err Failed) → ⊥)
    × (FailsAsInside seen (over (holds old) None) (downed (holds old) None) {R = ℕ} (Ok 10) → ⊥)
the_store_is_asked_or_not = (
  ((refl, refl), refl),
  λ h. let e = ap (λ (s : Store). s.tables) h.1 in omega (arith, e),
  (refl, (refl, refl, refl, refl)),
  (refl, (refl, refl, (omega arith, omega arith), inl refl)),
  λ h. let e = h.1.1 in absurd (cc),
  λ h. let e = h.0 in omega (arith, e),
)

-- a read that is due fails whatever was chosen, and isn't asked; one that isn't due answers what the store inside does
a_read_fails_where_due : IsReadDue seen (over (holds old) (in_calls 1 New)) (downed (holds old) None) {R = ℕ} (Some New)
    (Err Failed)
    × IsReadDue seen (over (holds old) None) (over (holds old) None) {R = ℕ} None (Ok 10)
    × (IsReadDue seen (over (holds old) (in_calls 1 New)) (downed (holds old) None) {R = ℕ} (Some New) (Ok 10) → ⊥)
    × (IsReadDue seen (over (holds old) None) (downed (holds old) None) {R = ℕ} None (Err Failed) → ⊥)
a_read_fails_where_due = (
  ((refl, refl), refl),
  (refl, (refl, refl, refl, refl)),
  λ h. let e = h.0.0 in absurd (cc),
  λ h. let e = h.0 in omega (arith, e),
)

-- a transaction that is to leave the old tables isn't asked of the store inside, and one that is to leave the new ones
-- is; both fail
a_transaction_fails_where_due : IsTransactionDue seen (over (holds old) (in_calls 1 Old)) (downed (holds old) None)
    (Some Old) (Err Failed)
    × IsTransactionDue seen (over (holds old) (in_calls 1 New)) (downed (holds new) None) (Some New) (Err Failed)
    × IsTransactionDue seen (over (holds old) None) (over (holds new) None) None (Ok tt)
    × (IsTransactionDue seen (over (holds old) (in_calls 1 Old)) (downed (holds new) None) (Some Old) (Err Failed) → ⊥)
    × (IsTransactionDue seen (over (holds old) (in_calls 1 New)) (over (holds new) None) (Some New) (Ok tt) → ⊥)
a_transaction_fails_where_due = (
  ((refl, refl), refl),
  (refl, refl),
  (refl, (refl, refl, refl, refl)),
  λ h. let e = ap (λ (s : Store). s.tables) h.1 in omega (arith, e),
  λ h. let e = h.0 in absurd (cc),
)

-- ---- whole calls

-- a read is to answer ten times the number
abbrev tenfold : ℕ → ℕ → Type 0
tenfold t answer = answer ≡ 10 * t

-- the first read answers and the second fails; a read that is due doesn't answer, and an arming is counted down
reads_are_counted_down : ReadsDue seen (over (holds old) (in_calls 2 Old)) (over (holds old) (in_calls 1 Old)) tenfold
    (Ok 10)
    × ReadsDue seen (over (holds old) (in_calls 1 Old)) (downed (holds old) None) {R = ℕ} tenfold (Err Failed)
    × (ReadsDue seen (over (holds old) (in_calls 1 Old)) (over (holds old) None) tenfold (Ok 10) → ⊥)
    × (ReadsDue seen (over (holds old) (in_calls 2 Old)) (over (holds old) (in_calls 2 Old)) tenfold (Ok 10) → ⊥)
    × (ReadsDue seen (over (holds old) None) (over (holds old) None) tenfold (Ok 20) → ⊥)
reads_are_counted_down = (
  record {
    reads = record { call = (refl, refl, refl, (refl, omega arith)); doubt = omega arith; clean = λ _. (refl, refl) };
    armed = refl;
    fails = (refl, (refl, refl, refl, refl));
  },
  record {
    reads = record {
      call = (refl, refl, (omega arith, omega arith), inl refl);
      doubt = omega arith;
      clean = λ _ t h. h;
    };
    armed = refl;
    fails = ((refl, refl), refl);
  },
  λ h. let e = h.fails.0.0 in absurd (cc),
  λ h. let e = h.armed in absurd (cc),
  λ h. let e = (h.reads.clean refl).0 in omega (arith, e),
)

-- a transaction is to double the number 1
abbrev fits_one : ℕ → Type 0
fits_one t = t ≡ 1

abbrev double : ℕ → ℕ
double t = 2 * t

-- one that isn't due is made; one that is leaves the old tables or the new ones, as was chosen
transactions_leave_what_was_chosen : WritesDue seen (over (holds old) None) (over (holds new) None) fits_one double
    (Ok tt)
    × WritesDue seen (over (holds old) (in_calls 1 Old)) (downed (holds old) None) fits_one double (Err Failed)
    × WritesDue seen (over (holds old) (in_calls 1 New)) (downed (holds new) None) fits_one double (Err Failed)
    × (WritesDue seen (over (holds old) (in_calls 1 New)) (over (holds new) None) fits_one double (Ok tt) → ⊥)
    × (WritesDue seen (over (holds old) None) (over (holds old) None) fits_one double (Ok tt) → ⊥)
transactions_leave_what_was_chosen = (
  record {
    writes = record { call = (refl, refl, refl, refl); doubt = omega arith; clean = λ _ _. refl };
    armed = refl;
    fails = (refl, (refl, refl, refl, refl));
    left = λ _ _. tt;
  },
  record {
    writes = record {
      call = (refl, refl, (omega arith, omega arith), inl refl);
      doubt = omega arith;
      clean = λ _ _ t h. inl h;
    };
    armed = refl;
    fails = ((refl, refl), refl);
    left = λ _ _ t h. h;
  },
  record {
    writes = record {
      call = (refl, refl, (omega arith, omega arith), inl refl);
      doubt = omega arith;
      clean = λ _ _ t h. inr h;
    };
    armed = refl;
    fails = (refl, refl);
    left = λ _ _. (Ok tt, (refl, refl, refl, refl), λ t h. h);
  },
  λ h. let e = h.fails.0 in absurd (cc),
  λ h. let e = h.writes.clean refl refl in omega (arith, e),
)

-- a reopening is that of the store inside, which is asked for it; the arming stays
a_reopening_passes : ReopensThrough seen (downed (holds old) (in_calls 2 New))
    (record (downed (holds old) (in_calls 2 New)) { is_down = false }) (Ok tt)
    × ReopensThrough seen (over (broken (only old)) None) (over (broken (only old)) None) (Err Memory)
    × (ReopensThrough seen (over (broken (only old)) None) (over (broken (only old)) None) (Ok tt) → ⊥)
    × (ReopensThrough seen (downed (holds old) (in_calls 2 New)) (record (downed (holds old) None) { is_down = false })
    (Ok tt) → ⊥)
    × (ReopensThrough seen (downed (holds old) None) (over (holds old) None) (Ok tt) → ⊥)
a_reopening_passes = (
  record {
    reopens = record { call = (refl, refl, refl); doubt = omega arith; clean = λ _. ∣ refl ∣₁ };
    armed = refl;
    passes = (refl, (refl, refl, refl));
  },
  record {
    reopens = record { call = (refl, refl, refl); doubt = omega arith; clean = λ _ t h. h };
    armed = refl;
    passes = (refl, (refl, refl, refl));
  },
  λ h. let e = h.passes.1.0 in absurd (cc),
  λ h. let e = h.armed in absurd (cc),
  λ h. let e = h.passes.0 in omega (arith, e),
)
