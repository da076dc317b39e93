-- One read of a store behind another, and calls that read nothing.
use Rattle.std.proofs.Common.{◌≡◌, Bool, false, Result, Ok, Err, refl, ◌∙◌, subst, arith, true}
use Rattle.keep.specs.Law.{IsCallCause, IsReadCause, Reads, Tells}
use Rattle.keep.specs.Seen.{Seen, keep_end}
use Rattle.keep.specs.declared.fault.KeepFault.{KeepFault}
use Rattle.keep.specs.declared.fault.KeepFault.TheVariants.{Failed, Memory, WrongFile}
use Rattle.outbox.specs.Faults.{IsLimit, outbox_cause}
use Rattle.outbox.specs.declared.fault.OutboxFault.{OutboxFault}
use Rattle.outbox.specs.declared.fault.OutboxFault.TheVariants.{Store, NumberLimit}
use Rattle.group_commit.specs.Parts.Planning.{stopped}
use Rattle.keep.proofs.Arms.{stays_armed, then_served, then_failed}

module _ {E T : Type 0} (seen : E → Seen T) where
  -- nothing was read
  pub reads_nothing : {R : Type 0} (k : E) (gives : T → R → Type 0) (r : R) → (seen k).usable ≡ true
      → ((t : T) → gives t r)
      → Reads seen k k {R = R} {F = KeepFault} gives (Ok r)
  reads_nothing k gives r up holds = record {
    call = (up, up, refl, stays_armed (seen k).armed);
    doubt = omega arith;
    clean = λ clean. (holds (seen k).tables, refl);
  }

  -- a growth was refused
  pub reads_refused : {R : Type 0} (k : E) (gives : T → R → Type 0) → (seen k).usable ≡ true
      → Reads seen k k {R = R} gives (keep_end (Err Memory))
  reads_refused k gives up = record {
    call = (up, up, refl, stays_armed (seen k).armed);
    doubt = omega arith;
    clean = λ clean. refl;
  }

  module _ (old mid new : E) where
    -- what is read then follows from what was read first
    pub reads_then : {V R : Type 0} (first : T → V → Type 0) (v : V) (second gives : T → R → Type 0)
        (result : Result R KeepFault)
        → ((t : T) (r : R) → first t v → second t r → gives t r)
        → Reads seen old mid {R = V} {F = KeepFault} first (Ok v)
        → Reads seen mid new second (keep_end result)
        → Reads seen old new gives (keep_end result)
    reads_then first v second gives (Ok r) so a b = let d = a.doubt in let e = b.doubt in record {
      call = then_served seen old mid new a.call b.call;
      doubt = omega (arith, d, e);
      clean = λ clean.
          let told = a.clean (omega (arith, clean, e)) in
          let more = b.clean clean in
          (so (seen old).tables r told.0 (subst (λ t. second t r) told.1 more.0), more.1 ∙ told.1);
    }
    reads_then first v second gives (Err Memory) so a b = let d = a.doubt in let e = b.doubt in record {
      call = then_served seen old mid new a.call b.call;
      doubt = omega (arith, d, e);
      clean = λ clean. b.clean clean ∙ (a.clean (omega (arith, clean, e))).1;
    }
    reads_then first v second gives (Err Failed) so a b = let d = a.doubt in let e = b.doubt in record {
      call = then_failed seen old mid new a.call b.call;
      doubt = omega (arith, d, e);
      clean = λ clean t l. b.clean clean t l ∙ (a.clean (omega (arith, clean, e))).1;
    }
    reads_then first v second gives (Err WrongFile) so a b = absurd b.call.1

  module _ (old new : E) where
    -- the read that failed ends the call
    pub read_fails : {V R : Type 0} (first : T → V → Type 0) (gives : T → R → Type 0) (fault : KeepFault)
        → Reads seen old new first (keep_end {R = V} (Err fault))
        → Reads seen old new gives (keep_end {R = R} (Err fault))
    read_fails first gives Memory a = record { call = a.call; doubt = a.doubt; clean = a.clean }
    read_fails first gives Failed a = record { call = a.call; doubt = a.doubt; clean = a.clean }
    read_fails first gives WrongFile a = absurd a.call.1

    -- what was read is answered, or another value
    pub read_gives : {V R : Type 0} (first : T → V → Type 0) (v : V) (gives : T → R → Type 0) (r : R)
        → ((t : T) → first t v → gives t r)
        → Reads seen old new {R = V} {F = KeepFault} first (Ok v)
        → Reads seen old new {R = R} {F = KeepFault} gives (Ok r)
    read_gives first v gives r so a = record {
      call = a.call;
      doubt = a.doubt;
      clean = λ clean. let told = a.clean clean in (so (seen old).tables told.0, told.1);
    }

    -- memory was refused behind it
    pub read_refused : {V R : Type 0} (first : T → V → Type 0) (v : V) (gives : T → R → Type 0)
        → Reads seen old new {R = V} {F = KeepFault} first (Ok v)
        → Reads seen old new gives (keep_end {R = R} (Err Memory))
    read_refused first v gives a =
        record { call = a.call; doubt = a.doubt; clean = λ clean. (a.clean clean).1 }

    -- numbering that stopped
    pub numbering_stops : (Why : T → OutboxFault → Type 0) (fits : T → Bool → Type 0)
        (fault : OutboxFault)
        → ((t : T) → fits t false)
        → Tells seen old new (IsCallCause seen old new IsLimit (outbox_cause fault))
        (IsReadCause seen old new Why (outbox_cause fault))
        → Reads seen old new fits (keep_end (stopped fault))
    numbering_stops Why fits NumberLimit none h = record {
      call = h.call.0;
      doubt = h.doubt;
      clean = λ clean. (none (seen old).tables, (h.clean clean).1);
    }
    numbering_stops Why fits (Store Memory) none h = record { call = h.call; doubt = h.doubt; clean = h.clean }
    numbering_stops Why fits (Store Failed) none h = record { call = h.call; doubt = h.doubt; clean = h.clean }
    numbering_stops Why fits (Store WrongFile) none h = absurd h.call.1
