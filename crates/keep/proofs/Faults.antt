-- What a store says of a call, from what the store inside says of it.
use Rattle.std.proofs.Common.{ℕ, ◌+◌, ◌-◌, ◌^◌, ◌≤◌, ◌≡◌, inl, inr, min, Bool, true, false, not, ◌&&◌, Some, None}
use Rattle.std.proofs.Common.{Result, Ok, Err, refl}
use Rattle.std.proofs.Common.{sym, ap, subst, ◌∙◌, arith}
use Rattle.keep.specs.declared.fault.KeepFault.{KeepFault}
use Rattle.keep.specs.declared.fault.KeepFault.TheVariants.{Failed, Memory, WrongFile}
use Rattle.keep.specs.declared.faulty.Leaves.{Leaves}
use Rattle.keep.specs.declared.faulty.Leaves.TheVariants.{Old, New}
use Rattle.keep.specs.Law.{MoreFailures, LeavesEither, Never, IsCall, IsRead, IsTransaction, IsReopenCall, IsReopening}
use Rattle.keep.specs.Law.{HasFailed, Reads}
use Rattle.keep.specs.Law.{StaysArmed, MayBeMet, Writes, Reopens}
use Rattle.keep.specs.Seen.{Seen, IsSound, keep_end}
use Rattle.keep.specs.Failing.{Failing, through, due, counted_down, LeavesNew, ReadsDue, WritesDue, ReopensThrough}
use Rattle.keep.specs.Inside.{inside}
use Rattle.keep.proofs.Arms.{unmet, counts_down}

more_inside : (own before after : ℕ) → MoreFailures before after → MoreFailures (own + before) (own + after)
more_inside own before after h = let k : min (before + 1) (2 ^ 64 - 1) ≤ after = h.1 in let stays = h.0 in
    (omega (arith, stays), omega (arith, k))

up : (down usable : Bool) → down ≡ false → usable ≡ true → (not down && usable) ≡ true
up true usable d h = let z : true ≡ false = d in cc
up false usable d h = h

down : (down usable : Bool) → usable ≡ false → (not down && usable) ≡ false
down true usable h = refl
down false usable h = h

module _ {K T : Type 0} (seen : K → Seen T) (old new : Failing K) where
  module _ (was : old.is_down ≡ false) (is : new.is_down ≡ false) (own : new.failures ≡ old.failures) where
    same : (a b : ℕ) → b ≡ a → new.failures + b ≡ old.failures + a
    same a b e = omega (arith, own, e)

    more : (a b : ℕ) → MoreFailures a b → MoreFailures (old.failures + a) (new.failures + b)
    more a b m = subst (λ n. MoreFailures (old.failures + a) (n + b)) (sym own) (more_inside old.failures a b m)

    -- a call inside is a call, where what is armed still is
    call_inside : {R : Type 0} (r : Result R KeepFault) → StaysArmed old.armed new.armed
        → IsCall seen old.keep new.keep Never (keep_end r) → IsCall (through seen) old new Never (keep_end r)
    call_inside (Ok _) stays h = (up old.is_down _ was h.0, up new.is_down _ is h.1, same _ _ h.2, stays)
    call_inside (Err Memory) stays h = (up old.is_down _ was h.0, up new.is_down _ is h.1, same _ _ h.2, stays)
    call_inside (Err Failed) stays h = (up old.is_down _ was h.0, down new.is_down _ h.1, more _ _ h.2, inr stays)
    call_inside (Err WrongFile) stays h = absurd h.1

    -- a reopening inside is a reopening
    reopen_inside : (r : Result Unit KeepFault) → new.armed ≡ old.armed
        → IsReopenCall seen old.keep new.keep (keep_end r)
        → IsReopenCall (through seen) old new (keep_end r)
    reopen_inside (Ok _) stays h = (up new.is_down _ is h.0, same _ _ h.1, stays)
    reopen_inside (Err Memory) stays h = (down new.is_down _ h.0, same _ _ h.1, stays)
    reopen_inside (Err Failed) stays h = (down new.is_down _ h.0, more _ _ h.1, stays)
    reopen_inside (Err WrongFile) stays h = absurd h

  -- and what it says of the tables stays
  read_clean : {R : Type 0} (gives : T → R → Type 0) (r : Result R KeepFault)
      → IsRead seen old.keep new.keep gives (λ _. Never) (keep_end r)
      → IsRead (through seen) old new gives (λ _. Never) (keep_end r)
  read_clean gives (Ok _) h = h
  read_clean gives (Err Memory) h = h
  read_clean gives (Err Failed) h = h
  read_clean gives (Err WrongFile) h = h

  write_clean : (to : T → T) (r : Result Unit KeepFault) → IsTransaction seen old.keep new.keep to (keep_end r)
      → IsTransaction (through seen) old new to (keep_end r)
  write_clean to (Ok _) h = h
  write_clean to (Err Memory) h = h
  write_clean to (Err Failed) h = h
  write_clean to (Err WrongFile) h = h

  reopen_clean : (r : Result Unit KeepFault) → IsReopening seen old.keep new.keep (keep_end r)
      → IsReopening (through seen) old new (keep_end r)
  reopen_clean (Ok _) h = h
  reopen_clean (Err Memory) h = h
  reopen_clean (Err Failed) h = h
  reopen_clean (Err WrongFile) h = h

  -- a call that isn't due to fail is counted, and what is armed still is
  still : new.armed ≡ counted_down old.armed → due old.armed ≡ None → StaysArmed old.armed new.armed
  still armed unarmed = subst (StaysArmed old.armed) (sym armed) (unmet old.armed unarmed)

  -- a call that the store inside answers
  pub read_inside : {R : Type 0} (gives : T → R → Type 0) (r : Result R KeepFault) → old.is_down ≡ false
      → new.is_down ≡ false
      → new.failures ≡ old.failures
      → new.armed ≡ counted_down old.armed → due old.armed ≡ None → Reads seen old.keep new.keep gives (keep_end r)
      → ReadsDue seen old new gives r
  read_inside gives r was is own armed unarmed h = record {
    reads = record {
      call = call_inside was is own r (still armed unarmed) h.call;
      doubt = h.doubt;
      clean = λ e. read_clean gives
          r (h.clean e);
    };
    armed = armed;
    fails = rw unarmed (own, h.call);
  }

  pub write_inside : (Fit : T → Type 0) (to : T → T) (r : Result Unit KeepFault) → old.is_down ≡ false
      → new.is_down ≡ false
      → new.failures ≡ old.failures
      → new.armed ≡ counted_down old.armed → due old.armed ≡ None → Writes seen old.keep new.keep Fit to (keep_end r)
      → WritesDue seen old new Fit to r
  write_inside Fit to r was is own armed unarmed h = record {
    writes = record {
      call = call_inside was is own r (still armed unarmed) h.call;
      doubt = h.doubt;
      clean = λ e fit. write_clean to r
          (h.clean e fit);
    };
    armed = armed;
    fails = rw unarmed (own, h.call);
    left = rw unarmed (λ _ _. tt);
  }

  pub reopened_inside : (r : Result Unit KeepFault) → old.is_down ≡ false → new.is_down ≡ false
      → new.failures ≡ old.failures
      → new.armed ≡ old.armed → Reopens seen old.keep new.keep (keep_end r) → ReopensThrough seen old new r
  reopened_inside r was is own armed h = record {
    reopens = record {
      call = reopen_inside was is own r armed h.call;
      doubt = h.doubt;
      clean = λ e. reopen_clean r (h.clean e);
    };
    armed = armed;
    passes = (own, h.call);
  }

  -- a call that fails because it was armed; `mid` is the store once it was counted
  module _ (mid : Failing K) (sound : IsSound (seen old.keep)) (usable : (through seen old).usable ≡ true)
      (armed : mid ≡ record old { armed = counted_down old.armed })
      (counted : new ≡ record mid { is_down = true; failures = min (mid.failures + 1) (2 ^ 64 - 1) })
      (more_own : MoreFailures mid.failures new.failures) where
    was_own : mid.failures ≡ old.failures
    was_own = ap (λ (f : Failing K). f.failures) armed

    kept : new.keep ≡ old.keep
    kept = ap (λ (f : Failing K). f.keep) counted ∙ ap (λ (f : Failing K). f.keep) armed

    down_now : (not new.is_down && (seen new.keep).usable) ≡ false
    down_now = ap (λ (f : Failing K). not f.is_down && (seen f.keep).usable) counted

    own_now : new.failures ≡ min (old.failures + 1) (2 ^ 64 - 1)
    own_now = ap (λ (f : Failing K). f.failures) counted ∙ ap (λ n. min (n + 1) (2 ^ 64 - 1)) was_own

    armed_now : new.armed ≡ counted_down old.armed
    armed_now = ap (λ (f : Failing K). f.armed) counted ∙ ap (λ (f : Failing K). f.armed) armed

    failed_call : HasFailed (through seen) old new
    failed_call =
        let e : (seen new.keep).failures ≡ (seen old.keep).failures = ap (λ k. (seen k).failures) kept in
        let a = more_own.0 in
        let b = more_own.1 in (
          usable,
          down_now,
          (omega (arith, was_own, a, e), omega (arith, was_own, b, e)),
          subst (MayBeMet old.armed) (sym armed_now) (counts_down old.armed),
        )

    failed_doubt : (seen old.keep).doubt ≤ (seen new.keep).doubt
    failed_doubt =
        let e : (seen new.keep).doubt ≡ (seen old.keep).doubt = ap (λ k. (seen k).doubt) kept in omega (arith, e)

    failed_clean : (seen new.keep).doubt ≡ 0 → (t : T) → (seen new.keep).may_leave t → t ≡ (seen old.keep).tables
    failed_clean clean t l =
        sound.only_now (subst (λ k. (seen k).doubt ≡ 0) kept clean) (inside old.is_down (seen old.keep).usable usable)
        t (subst (λ k. (seen k).may_leave t) kept l)

    pub read_failed : {R : Type 0} (gives : T → R → Type 0) (r : Result R KeepFault) (leaves : Leaves)
        → due old.armed ≡ Some leaves
        → r ≡ Err Failed → ReadsDue seen old new gives r
    read_failed gives r leaves due_is fails = rw fails (record {
      reads = record { call = failed_call; doubt = failed_doubt; clean = failed_clean };
      armed = armed_now;
      fails = rw due_is ((refl, own_now), kept);
    })

    pub write_failed : (Fit : T → Type 0) (to : T → T) (r : Result Unit KeepFault) → due old.armed ≡ Some Old
        → r ≡ Err Failed
        → WritesDue seen old new Fit to r
    write_failed Fit to r due_is fails = rw fails (record {
      writes = record { call = failed_call; doubt = failed_doubt; clean = λ clean _ t l. inl (failed_clean clean t l) };
      armed = armed_now;
      fails = rw due_is ((refl, own_now), kept);
      left = rw due_is (λ clean _. failed_clean clean);
    })

  -- a transaction that the store inside was asked for, and that fails: `asked` is the store then, and `answer` what the
  -- store inside answered
  module _ (mid asked : Failing K) (sound : IsSound (seen asked.keep)) (usable : (through seen old).usable ≡ true)
      (armed : mid ≡ record old { armed = counted_down old.armed })
      (counted : new ≡ record asked { is_down = true; failures = min (asked.failures + 1) (2 ^ 64 - 1) })
      (more_own : MoreFailures asked.failures new.failures)
      (same_own : asked.failures ≡ mid.failures) (same_armed : asked.armed ≡ mid.armed) where
    hidden_own : asked.failures ≡ old.failures
    hidden_own = same_own ∙ ap (λ (f : Failing K). f.failures) armed

    hidden_keep : new.keep ≡ asked.keep
    hidden_keep = ap (λ (f : Failing K). f.keep) counted

    hidden_armed : new.armed ≡ counted_down old.armed
    hidden_armed = ap (λ (f : Failing K). f.armed) counted ∙ same_armed ∙ ap (λ (f : Failing K). f.armed) armed

    -- the store inside counted as many or more
    rises : (answer : Result Unit KeepFault) → IsCall seen old.keep asked.keep Never (keep_end answer)
        → (seen old.keep).failures ≤ (seen asked.keep).failures
    rises (Ok _) h = let e = h.2 in omega (arith, e)
    rises (Err Memory) h = let e = h.2 in omega (arith, e)
    rises (Err Failed) h = h.2.0
    rises (Err WrongFile) h = absurd h.1

    left_by : (to : T → T) (answer : Result Unit KeepFault) → IsCall seen old.keep asked.keep Never (keep_end answer)
        → (seen asked.keep).doubt ≡ 0
        → IsTransaction seen old.keep asked.keep to (keep_end answer)
        → LeavesNew (seen old.keep).tables (to (seen old.keep).tables) (seen asked.keep).may_leave answer
    left_by to (Ok _) call clean did = λ t l. sound.only_now clean call.1 t l ∙ did
    left_by to (Err Memory) call clean did = λ t l. sound.only_now clean call.1 t l ∙ did
    left_by to (Err Failed) call clean did = did
    left_by to (Err WrongFile) call clean did = absurd call.1

    either_by : (to : T → T) (answer : Result Unit KeepFault)
        → LeavesNew (seen old.keep).tables (to (seen old.keep).tables) (seen asked.keep).may_leave answer
        → LeavesEither (seen old.keep).tables (to (seen old.keep).tables) (seen asked.keep).may_leave
    either_by to (Ok _) left = λ t l. inr (left t l)
    either_by to (Err Memory) left = λ t l. inl (left t l)
    either_by to (Err Failed) left = left
    either_by to (Err WrongFile) left = absurd left

    pub write_hidden : (Fit : T → Type 0) (to : T → T) (r answer : Result Unit KeepFault) → due old.armed ≡ Some New
        → r ≡ Err Failed
        → Writes seen mid.keep asked.keep Fit to (keep_end answer) → WritesDue seen old new Fit to r
    write_hidden Fit to r answer due_is fails did =
        let inner : Writes seen old.keep asked.keep Fit to (keep_end answer) =
        subst (λ k. Writes seen k asked.keep Fit to (keep_end answer)) (ap (λ (f : Failing K). f.keep) armed) did in
        let rose = rises answer inner.call in
        let e : (seen new.keep).failures ≡ (seen asked.keep).failures = ap (λ k. (seen k).failures) hidden_keep in
        let d : (seen new.keep).doubt ≡ (seen asked.keep).doubt = ap (λ k. (seen k).doubt) hidden_keep in
        let a = more_own.0 in
        let b = more_own.1 in
        let above = inner.doubt in
        let own = hidden_own in
        let later : (P : K → Type 0) → P asked.keep → P new.keep = λ P p. subst P (sym hidden_keep) p in
        let left : (seen asked.keep).doubt ≡ 0 → Fit (seen old.keep).tables
        → LeavesNew (seen old.keep).tables (to (seen old.keep).tables) (seen asked.keep).may_leave answer
        = λ clean fit. left_by to answer inner.call clean (inner.clean clean fit) in
        rw fails (record {
          writes = record {
            call = (
              usable,
              ap (λ (f : Failing K). not f.is_down && (seen f.keep).usable) counted,
              (omega (arith, own, a, e, rose), omega (arith, own, b, e, rose)),
              subst (MayBeMet old.armed) (sym hidden_armed) (counts_down old.armed),
            );
            doubt = omega (arith, d, above);
            clean = later (λ k. (seen k).doubt ≡ 0 → Fit (seen old.keep).tables
                → LeavesEither (seen old.keep).tables (to (seen old.keep).tables) (seen k).may_leave)
                (λ clean fit. either_by to answer (left clean fit));
          };
          armed = hidden_armed;
          fails = rw due_is (
            refl,
            ap (λ (f : Failing K). f.failures) counted
                ∙ ap (λ n. min (n + 1) (2 ^ 64 - 1)) hidden_own,
          );
          left = rw due_is (later (λ k. (seen k).doubt ≡ 0 → Fit (seen old.keep).tables
              → (answer : Result Unit KeepFault)
              × IsCall seen old.keep k Never (keep_end answer)
              × LeavesNew (seen old.keep).tables (to (seen old.keep).tables) (seen k).may_leave answer)
              (λ clean fit. (answer, inner.call, left clean fit)));
        })
