-- How the parts of a call on letters come together: a read before a part, and what a part ends with.
use Rattle.std.proofs.Common.{ℕ, ◌≡◌, List, Result, Ok, Err, refl, sym, ap, ◌∙◌, subst, true, arith}
use Rattle.std.proofs.Common.{true≢false}
use Rattle.activities.specs.Service.{Service}
use Rattle.activities.proofs.Sameness.{either}
use Rattle.keep.specs.declared.change.Change.{Change}
use Rattle.keep.specs.Law.{IsServed, IsCall, Reads, Writes}
use Rattle.keep.proofs.Arms.{stays_armed, then_served, then_failed}
use Rattle.keep.specs.Seen.{Seen, IsSound, End, no_memory, failed, unusable, refused}
use Rattle.keep.specs.Tables.{Tables, changed, ArePlaced}
use Rattle.endpoint.specs.declared.fault.EndFault.{EndFault}
use Rattle.endpoint.specs.declared.fault.EndFault.TheVariants.{NotMine, Business, TooEarly, StoreFailed, Memory}
use Rattle.endpoint.specs.declared.fault.EndFault.TheVariants.{Unusable, NumberLimit}
use Rattle.endpoint.specs.declared.fault.EndFault.TheVariants.{NotSent}
use Rattle.endpoint.specs.Arrivals.{IsDone}
use Rattle.endpoint.specs.Deeds.{Kept, kept, Deed, Nothing, DidWithin}
use Rattle.endpoint.specs.Faults.{end_of}
use Rattle.endpoint.specs.Matches.{TablesMatchWithin, AllMatchWithin}
use Rattle.endpoint.specs.Parts.Receiving.{Works}
use Rattle.endpoint.proofs.Refusals.{if_refused}

module _ {E S C : Type 0} (seen : E → Seen (Tables S C)) (sound : (k : E) → IsSound (seen k)) (ahead : ℕ)
    (service : Service S C) where
  abbrev Good : Tables S C → Type 0
  Good = TablesMatchWithin ahead service

  -- the tables that match, where the store is usable
  pub good_now : (k : E) → (seen k).doubt ≡ 0 → (seen k).usable ≡ true → AllMatchWithin ahead service (seen k).may_leave
      → Good (seen k).tables
  good_now k clean up good = good (seen k).tables ((sound k).stays clean up)

  -- a usable store whose tables match leaves no others
  all_match : (k : E) → (seen k).doubt ≡ 0 → (seen k).usable ≡ true → Good (seen k).tables
      → AllMatchWithin ahead service (seen k).may_leave
  all_match k clean up good t l = subst Good (sym ((sound k).only_now clean up t l)) good

  module _ (old new : E) where
    same_match : IsServed seen old new → (seen old).doubt ≡ 0 → (seen new).doubt ≡ 0
        → (seen new).tables ≡ (seen old).tables
        → AllMatchWithin ahead service (seen old).may_leave → AllMatchWithin ahead service (seen new).may_leave
    same_match served clean0 clean same good =
        all_match new clean served.1 (subst Good (sym same) (good_now old clean0 served.0 good))

    module _ {R : Type 0} (Reason : EndFault → Type 0) (Q : Tables S C → Type 0)
        (may : Result R EndFault → Kept C → Deed C → Type 0)
        (memory : (x : Kept C) → may (Err Memory) x Nothing) (failing : (x : Kept C) → may (Err StoreFailed) x Nothing)
      where
        -- a read that wasn't done
        pub read_fails : {V : Type 0} (gives : Tables S C → V → Type 0) (fault : EndFault) → (seen old).usable ≡ true
            → Reads seen old new {R = V} gives (end_of (Err fault))
            → Works seen old new ahead service Reason Q may (Err fault)
        read_fails gives Memory up h = let d = h.doubt in record {
          call = h.call;
          doubt = h.doubt;
          clean = λ clean. let same = h.clean clean in (
            same,
            λ good q.
                ((memory (kept (seen old).tables), same), same_match h.call (omega (arith, clean, d)) clean same good),
          );
        }
        read_fails gives StoreFailed up h = let d = h.doubt in record {
          call = h.call;
          doubt = h.doubt;
          clean = λ clean. (
            tt,
            λ good q. (
              λ t l. (Nothing, failing (kept (seen old).tables), ap kept (h.clean clean t l)),
              λ t l. subst Good (sym (h.clean clean t l)) (good_now old (omega (arith, clean, d)) up good),
            ),
          );
        }
        read_fails gives Unusable up h = absurd (true≢false (sym up ∙ h.call.0))
        read_fails gives NotMine up h = absurd h.call.1
        read_fails gives (Business _) up h = absurd h.call.1
        read_fails gives TooEarly up h = absurd h.call.1
        read_fails gives NumberLimit up h = absurd h.call.1
        read_fails gives NotSent up h = absurd h.call.1

        -- what a transaction answers that was to do this
        abbrev pub answers : R → Result Unit EndFault → Result R EndFault
        answers answer (Ok _) = Ok answer
        answers answer (Err fault) = Err fault

        -- a transaction that does a deed
        pub write_ends : (cs : List (Change S C)) (d : Deed C) (answer : R) (r : Result Unit EndFault)
            → (seen old).usable ≡ true
            → ((t : Tables S C) → ArePlaced cs t)
            → ((t : Tables S C) → Good t → Q t → may (Ok answer) (kept t) d × may (Err StoreFailed) (kept t) d
            × DidWithin ahead service (kept t) d (kept (changed cs t)) × Good (changed cs t))
            → Writes seen old new (ArePlaced cs) (changed cs) (end_of r)
            → Works seen old new ahead service Reason Q may (answers answer r)
        write_ends cs d answer (Ok _) up placed does h = let e = h.doubt in record {
          call = h.call;
          doubt = h.doubt;
          clean = λ clean. (
            tt,
            λ good q.
                let g = good_now old (omega (arith, clean, e)) up good in
                let it = does (seen old).tables g q in
                let to = h.clean clean (placed (seen old).tables) in (
                  (d, it.0, subst (λ x. DidWithin ahead service (kept (seen old).tables) d (kept x)) (sym to) it.2),
                  all_match new clean h.call.1 (subst Good (sym to) it.3),
                ),
          );
        }
        write_ends cs d answer (Err Memory) up placed does h = let e = h.doubt in record {
          call = h.call;
          doubt = h.doubt;
          clean = λ clean. let same = h.clean clean (placed (seen old).tables) in (
            same,
            λ good q.
                ((memory (kept (seen old).tables), same), same_match h.call (omega (arith, clean, e)) clean same good),
          );
        }
        write_ends cs d answer (Err StoreFailed) up placed does h = let e = h.doubt in record {
          call = h.call;
          doubt = h.doubt;
          clean = λ clean. let ends = h.clean clean (placed (seen old).tables) in (
            tt,
            λ good q.
                let g = good_now old (omega (arith, clean, e)) up good in
                let it = does (seen old).tables g q in (
                  λ t l. either (ends t l)
                      (λ same. (Nothing, failing (kept (seen old).tables), ap kept same))
                      (λ to. (
                        d,
                        it.1,
                        subst (λ x. DidWithin ahead service (kept (seen old).tables) d (kept x)) (sym to)
                            it.2,
                      )),
                  λ t l. either (ends t l) (λ same. subst Good (sym same) g)
                      (λ to. subst Good (sym to) it.3),
                ),
          );
        }
        write_ends cs d answer (Err Unusable) up placed does h = absurd (true≢false (sym up ∙ h.call.0))
        write_ends cs d answer (Err NotMine) up placed does h = absurd h.call.1
        write_ends cs d answer (Err (Business _)) up placed does h = absurd h.call.1
        write_ends cs d answer (Err TooEarly) up placed does h = absurd h.call.1
        write_ends cs d answer (Err NumberLimit) up placed does h = absurd h.call.1
        write_ends cs d answer (Err NotSent) up placed does h = absurd h.call.1

    -- an answer that a read gives, and nothing is done
    pub read_answers : {R V : Type 0} (Reason : EndFault → Type 0) (Q : Tables S C → Type 0)
        (may : Result R EndFault → Kept C → Deed C → Type 0) (gives : Tables S C → V → Type 0) (r : V) (answer : R)
        (d : Deed C)
        → ((t : Tables S C) → Good t → Q t → gives t r → may (Ok answer) (kept t) d
        × DidWithin ahead service (kept t) d (kept t))
        → Reads seen old new {R = V} {F = EndFault} gives (Ok r)
        → Works seen old new ahead service Reason Q may (Ok answer)
    read_answers Reason Q may gives r answer d so h = let e = h.doubt in record {
      call = h.call;
      doubt = h.doubt;
      clean = λ clean. (
        tt,
        λ good q.
            let clean0 : (seen old).doubt ≡ 0 = omega (arith, clean, e) in
            let told = h.clean clean in
            let it = so (seen old).tables (good_now old clean0 h.call.0 good) q told.0 in (
              (d, it.0, subst (λ x. DidWithin ahead service (kept (seen old).tables) d (kept x)) (sym told.1) it.1),
              same_match h.call clean0 clean told.1 good,
            ),
      );
    }

  -- a growth was refused, and nothing was done
  pub no_room : {R : Type 0} (k : E) (Reason : EndFault → Type 0) (Q : Tables S C → Type 0)
      (may : Result R EndFault → Kept C → Deed C → Type 0) → ((x : Kept C) → may (Err Memory) x Nothing)
      → (seen k).usable ≡ true
      → Works seen k k ahead service Reason Q may (Err Memory)
  no_room k Reason Q may memory up = record {
    call = (up, up, refl, stays_armed (seen k).armed);
    doubt = omega arith;
    clean = λ clean. (refl, λ good q. ((memory (kept (seen k).tables), refl), good));
  }

  -- ---- a part behind a read

  module _ (old mid new : E) (Reason Wider : EndFault → Type 0) (wider : (f : EndFault) → Reason f → Wider f) where
    later : {R : Type 0} (end : End R EndFault) → IsServed seen old mid → IsCall seen mid new Reason end
        → IsCall seen old new Wider end
    later (Ok r) served h = then_served seen old mid new served h
    later (Err no_memory) served h = then_served seen old mid new served h
    later (Err failed) served h = then_failed seen old mid new served h
    later (Err unusable) served h = absurd (true≢false (sym served.1 ∙ h.0))
    later (Err (refused fault)) served h = (then_served seen old mid new served h.0, wider fault h.1)

    pub read_then : {R V : Type 0} (P Q : Tables S C → Type 0) (may : Result R EndFault → Kept C → Deed C → Type 0)
        (gives : Tables S C → V → Type 0) (r : V) (result : Result R EndFault)
        → ((t : Tables S C) → Good t → Q t → gives t r → P t) → Reads seen old mid {R = V} {F = EndFault} gives (Ok r)
        → Works seen mid new ahead service Reason P may result → Works seen old new ahead service Wider Q may result
    read_then P Q may gives r result so read work = let d = read.doubt in let e = work.doubt in record {
      call = later (end_of result) read.call work.call;
      doubt = omega (arith, d, e);
      clean = λ clean.
          let clean1 : (seen mid).doubt ≡ 0 = omega (arith, clean, e) in
          let told = read.clean clean1 in
          let works = work.clean clean in (
            if_refused ((seen new).tables ≡ (seen mid).tables) ((seen new).tables ≡ (seen old).tables) result
                (λ same. same ∙ told.1) works.0,
            λ good q.
                let clean0 : (seen old).doubt ≡ 0 = omega (arith, clean1, d) in
                let ready = so (seen old).tables (good_now old clean0 read.call.0 good) q told.0 in
                let it = works.1 (same_match old mid read.call clean0 clean1 told.1 good) (subst P (sym told.1) ready)
                in (
                  subst (λ x. IsDone ahead service may x (seen new).tables (seen new).may_leave result) told.1 it.0,
                  it.1,
                ),
          );
    }
