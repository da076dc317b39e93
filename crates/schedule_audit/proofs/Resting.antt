-- Reads of one store, one after another.
use Rattle.std.proofs.Common.{ℕ, ◌≡◌, ◌≤◌, inl, inr, true≢false, Ok, Err, sym, ◌∙◌, ap, subst, arith}
use Rattle.std.specs.Prelude.{⊤, Result, IsErrAnd}
use Rattle.keep.specs.Law.{Reads}
use Rattle.keep.proofs.Arms.{then_served, then_failed}
use Rattle.keep.specs.Seen.{Seen, no_memory, failed, unusable, refused, End}
use Rattle.endpoint.specs.Faults.{end_cause}
use Rattle.endpoint.specs.declared.fault.EndFault.{EndFault}
use Rattle.schedule_audit.specs.Looks.{StandsFor, Rests, FailsToRead}

abbrev Any : {T R : Type 0} → T → R → Type 0
Any _ _ = ⊤

twice : (a b c : ℕ) → a ≤ b → b ≤ c → a ≤ c
twice a b c h k = omega arith

earlier : (a b : ℕ) → a ≤ b → b ≡ 0 → a ≡ 0
earlier a b h zero = omega arith

module _ {E T : Type 0} (seen : E → Seen T) where
  -- reads one after another are as one
  read_again : (old mid new : E) (end : End (Unit {0}) EndFault) → Rests seen old mid → Reads seen mid new Any end
      → Reads seen old new Any end
  read_again old mid new end (inl same) h = subst (λ (k : E). Reads seen k new Any end) same h
  read_again old mid new (Ok r) (inr had) h = record {
    call = then_served seen old mid new had.call h.call;
    doubt = twice _ _ _ had.doubt h.doubt;
    clean = λ c. (tt, (h.clean c).1 ∙ (had.clean (earlier _ _ h.doubt c)).1);
  }
  read_again old mid new (Err no_memory) (inr had) h = record {
    call = then_served seen old mid new had.call h.call;
    doubt = twice _ _ _ had.doubt h.doubt;
    clean = λ c. h.clean c ∙ (had.clean (earlier _ _ h.doubt c)).1;
  }
  read_again old mid new (Err failed) (inr had) h = record {
    call = then_failed seen old mid new had.call h.call;
    doubt = twice _ _ _ had.doubt h.doubt;
    clean = λ c t l. h.clean c t l ∙ (had.clean (earlier _ _ h.doubt c)).1;
  }
  read_again old mid new (Err unusable) (inr had) h = absurd (true≢false (sym had.call.1 ∙ h.call.0))
  read_again old mid new (Err (refused fault)) (inr had) h = absurd h.call.1

  pub rests_on : (old mid new : E) → Rests seen old mid → Rests seen mid new → Rests seen old new
  rests_on old mid new had (inl same) = subst (λ (k : E). Rests seen old k) (sym same) had
  rests_on old mid new had (inr h) = inr (read_again old mid new (Ok tt) had h)

  pub fails_on : (old mid new : E) (fault : EndFault) → Rests seen old mid → FailsToRead seen mid new fault
      → FailsToRead seen old new fault
  fails_on old mid new fault had h = read_again old mid new (Err (end_cause fault)) had h

  pub rests_clean : (old new : E) → Rests seen old new → (seen new).doubt ≡ 0 → (seen old).doubt ≡ 0
  rests_clean old new (inl same) clean = ap (λ (k : E). (seen k).doubt) (sym same) ∙ clean
  rests_clean old new (inr had) clean = earlier _ _ had.doubt clean

  -- what stands for its tables still does
  pub rests_stands : (old new : E) (t : T) → Rests seen old new → (seen new).doubt ≡ 0 → StandsFor seen old t
      → StandsFor seen new t
  rests_stands old new t (inl same) clean stands usable = subst (λ (k : E). StandsFor seen k t) (sym same) stands usable
  rests_stands old new t (inr had) clean stands usable = stands had.call.0 ∙ sym (had.clean clean).1

-- what holds where a fault is told holds of an answer that tells it
pub err_told : {R F : Type 0} (P : Result R F → Type 0) (r : Result R F) (fault : F) → IsErrAnd r (λ y. y ≡ fault)
    → P (Err fault) → P r
err_told P (Ok x) fault said holds = absurd said
err_told P (Err y) fault said holds = rw said holds
