-- The answers of the outbox, one read of the store after another.
use Rattle.std.proofs.Common.{◌≤◌, ◌≡◌, arith, Result, Err, ◌∙◌, subst}
use Rattle.keep.specs.declared.fault.KeepFault.{KeepFault}
use Rattle.keep.specs.declared.fault.KeepFault.TheVariants.{Failed, Memory, WrongFile}
use Rattle.keep.specs.Law.{IsServed, IsCallCause, IsReadCause, Tells, Reads, ReadsOr}
use Rattle.keep.proofs.Arms.{then_served, then_failed}
use Rattle.keep.specs.Seen.{Seen, keep_end}
use Rattle.outbox.specs.declared.fault.OutboxFault.{OutboxFault}
use Rattle.outbox.specs.declared.fault.OutboxFault.TheVariants.{Store, NumberLimit}
use Rattle.outbox.specs.Faults.{IsLimit, outbox_cause, outbox_end}

-- a store's fault is told as it is
module _ {E T : Type 0} (seen : E → Seen T) (old new : E) where
  pub read_told : {R S : Type 0} (gives : T → R → Type 0) (gives' : T → S → Type 0) (May : OutboxFault → Type 0)
      (Why : T → OutboxFault → Type 0) (fault : KeepFault) (r : Result S OutboxFault) (told : OutboxFault)
      → r ≡ Err told → told ≡ Store fault → Reads seen old new gives (keep_end (Err fault))
      → ReadsOr seen old new gives' May Why (outbox_end r)
  read_told gives gives' May Why Memory r told is e h =
      rw (is, e) (record { call = h.call; doubt = h.doubt; clean = h.clean })
  read_told gives gives' May Why Failed r told is e h =
      rw (is, e) (record { call = h.call; doubt = h.doubt; clean = h.clean })
  read_told gives gives' May Why WrongFile r told is e h = absurd h.call.1

-- a call after others that left the tables
module _ {E T : Type 0} (seen : E → Seen T) (old mid new : E) (served : IsServed seen old mid)
    (doubt : (seen old).doubt ≤ (seen mid).doubt)
    (same : (seen mid).doubt ≡ 0 → (seen mid).tables ≡ (seen old).tables) where
  pub read_later : (Why More : T → OutboxFault → Type 0) (fault : OutboxFault)
      → ((seen mid).doubt ≡ 0 → Why (seen mid).tables NumberLimit → More (seen old).tables NumberLimit)
      → Tells seen mid new (IsCallCause seen mid new IsLimit (outbox_cause fault))
      (IsReadCause seen mid new Why (outbox_cause fault))
      → Tells seen old new (IsCallCause seen old new IsLimit (outbox_cause fault))
      (IsReadCause seen old new More (outbox_cause fault))
  read_later Why More (Store Memory) f h = let a = h.doubt in record {
    call = then_served seen old mid new served h.call;
    doubt = omega (arith, doubt, a);
    clean = λ clean. h.clean clean ∙ same (omega (arith, clean, a));
  }
  read_later Why More (Store Failed) f h = let a = h.doubt in record {
    call = then_failed seen old mid new served h.call;
    doubt = omega (arith, doubt, a);
    clean = λ clean t l. h.clean clean t l ∙ same (omega (arith, clean, a));
  }
  read_later Why More (Store WrongFile) f h = absurd h.call.1
  read_later Why More NumberLimit f h = let a = h.doubt in record {
    call = (then_served seen old mid new served h.call.0, tt);
    doubt = omega (arith, doubt, a);
    clean = λ clean. let early : (seen mid).doubt ≡ 0 =
        omega (arith, clean, a) in let r = h.clean clean in (f early r.0, r.1 ∙ same early);
  }
