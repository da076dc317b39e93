-- From what a call tells of the store's use and of the tables, to what it tells of each content that a stop may leave.
use Rattle.std.proofs.Common.{ℕ, suc, ◌≡◌, inl, inr, length, true, Result, Ok, Err, refl, sym, ap, ◌∙◌, subst, arith}
use Rattle.std.proofs.Common.{length-append}
use Rattle.base.specs.Entity.{Entity}
use Rattle.activities.specs.Service.{Service}
use Rattle.activities.proofs.Sameness.{either}
use Rattle.activities.proofs.Journals.{command_row}
use Rattle.keep.specs.Law.{IsServed, ReadsOr, Reopens}
use Rattle.keep.specs.Seen.{Seen, IsSound, no_memory, failed, unusable, refused, End}
use Rattle.keep.specs.Tables.{Tables}
use Rattle.endpoint.specs.declared.answer.Committed.{Committed}
use Rattle.endpoint.specs.declared.fault.EndFault.TheVariants.{NotMine, Business, TooEarly, StoreFailed, Memory}
use Rattle.endpoint.specs.declared.fault.EndFault.TheVariants.{Unusable, NumberLimit}
use Rattle.endpoint.specs.declared.fault.EndFault.TheVariants.{NotSent}
use Rattle.endpoint.specs.declared.fault.EndFault.{EndFault}
use Rattle.endpoint.specs.Calls.{IsCommitCall, IsCommit, Appends, Stays, Finds}
use Rattle.endpoint.specs.Deeds.{Kept, kept, Deed, Nothing, TakesIn, DidWithin, CameWithin, Comes, CommitMay}

module _ {E S C : Type 0} (seen : E → Seen (Tables S C)) (old new : E) (was : IsSound (seen old))
    (is : IsSound (seen new)) where
  -- a usable store whose tables stay
  pub same_stays : IsServed seen old new → (seen old).doubt ≡ 0 → (seen new).doubt ≡ 0
      → (seen new).tables ≡ (seen old).tables
      → (t : Tables S C) → (seen new).may_leave t → (seen old).may_leave t
  same_stays served clean0 clean same t l =
      subst (seen old).may_leave (sym (is.only_now clean served.1 t l ∙ same)) (was.stays clean0 served.0)

  pub read_stays : {R F : Type 0} (gives : Tables S C → R → Type 0) (May : F → Type 0) (Why : Tables S C → F → Type 0)
      (end : End R F)
      → ReadsOr seen old new gives May Why end → Stays seen old new
  read_stays gives May Why (Ok r) h clean =
      let d = h.doubt in same_stays h.call (omega (arith, d, clean)) clean (h.clean clean).1
  read_stays gives May Why (Err no_memory) h clean =
      let d = h.doubt in same_stays h.call (omega (arith, d, clean)) clean (h.clean clean)
  read_stays gives May Why (Err failed) h clean = let d = h.doubt in
      λ t l. subst (seen old).may_leave (sym (h.clean clean t l)) (was.stays (omega (arith, d, clean)) h.call.0)
  read_stays gives May Why (Err unusable) h clean = λ t l. subst (λ k. (seen k).may_leave t) h.call.1 l
  read_stays gives May Why (Err (refused fault)) h clean = let d = h.doubt in
      same_stays h.call.0 (omega (arith, d, clean)) clean (h.clean clean).1

  pub reopen_finds : {R F : Type 0} (end : End R F) → Reopens seen old new end → Finds seen old new
  reopen_finds (Ok r) h clean t l =
      subst (λ x. ∥ (seen old).may_leave x ∥₁) (sym (is.only_now clean h.call.0 t l)) (h.clean clean)
  reopen_finds (Err cause) h clean t l = ∣ h.clean clean t l ∣₁

  module _ (ahead : ℕ) (service : Service S C) (clean0 : (seen old).doubt ≡ 0) (clean : (seen new).doubt ≡ 0) where
    none : (allowed : Kept C → Deed C → Type 0) (t : Tables S C) → (seen old).usable ≡ true
        → allowed (kept (seen old).tables) Nothing
        → t ≡ (seen old).tables → CameWithin ahead service allowed (seen old).may_leave t
    none allowed t up may same = record {
      before = (seen old).tables;
      deed = Nothing;
      was = was.stays clean0 up;
      may = may;
      did = ap kept same;
    }

    untouched : (allowed : Kept C → Deed C → Type 0) → new ≡ old → ((x : Kept C) → allowed x Nothing)
        → Comes ahead service allowed (seen old).may_leave (seen new).may_leave
    untouched allowed same may t l =
        record {
          before = t;
          deed = Nothing;
          was = subst (λ k. (seen k).may_leave t) same l;
          may = may (kept t);
          did = refl;
        }

    appended : (e : Entity) (seat : ℕ) (c : C) (t : Tables S C)
        → Appends ahead service (seen old).tables (command_row e seat c) (seen old).tables.held t
        → DidWithin ahead service (kept (seen old).tables) (TakesIn (command_row e seat c)) (kept t)
    appended e seat c t a = (a.takes, a.settled, a.held)

    -- a commit, whatever it answers
    pub commit_comes : (e : Entity) (seat : ℕ) (c : C) (result : Result Committed EndFault)
        → IsCommitCall seen old new service.kind (command_row e seat c) result
        → IsCommit ahead service (seen old).tables (command_row e seat c) (seen old).tables.held (seen new).tables
        (seen new).may_leave
        result
        → Comes ahead service (CommitMay service (command_row e seat c) result) (seen old).may_leave
        (seen new).may_leave
    commit_comes e seat c (Ok done) call did t l =
        let long : length (seen new).tables.journal ≡ suc (length (seen old).tables.journal) =
        ap length did.1.takes.appended
        ∙ length-append (seen old).tables.journal _ ∙ omega arith in
        record {
          before = (seen old).tables;
          deed = TakesIn (command_row e seat c);
          was = was.stays clean0 call.0.0;
          may = (refl, did.0.1 ∙ long);
          did = subst (λ x. DidWithin ahead service (kept (seen old).tables) (TakesIn (command_row e seat c)) (kept x))
              (sym (is.only_now clean call.0.1 t l)) (appended e seat c (seen new).tables did.1);
        }
    commit_comes e seat c (Err StoreFailed) call did t l = either (did t l).1
        (λ same. none (CommitMay service (command_row e seat c) (Err StoreFailed)) t call.0.0 (inl refl) same)
        (λ a. record {
          before = (seen old).tables;
          deed = TakesIn (command_row e seat c);
          was = was.stays clean0 call.0.0;
          may = inr refl;
          did = appended e seat c t a;
        })
    commit_comes e seat c (Err Memory) call did t l =
        none (CommitMay service (command_row e seat c) (Err Memory)) t call.0.0 refl
        (is.only_now clean call.0.1 t l ∙ did.1)
    commit_comes e seat c (Err NumberLimit) call did t l =
        none (CommitMay service (command_row e seat c) (Err NumberLimit)) t call.0.0.0 refl
        (is.only_now clean call.0.0.1 t l ∙ did.1)
    commit_comes e seat c (Err (Business k)) call did t l =
        none (CommitMay service (command_row e seat c) (Err (Business k))) t call.0.0.0 (refl, did.0.2)
        (is.only_now clean call.0.0.1 t l ∙ did.1)
    commit_comes e seat c (Err Unusable) call did t l =
        untouched (CommitMay service (command_row e seat c) (Err Unusable)) call.0.1 (λ x. refl) t l
    commit_comes e seat c (Err NotMine) call did t l =
        untouched (CommitMay service (command_row e seat c) (Err NotMine)) call.0.1.1 (λ x. refl) t l
    commit_comes e seat c (Err TooEarly) call did t l = absurd call.0.1
    commit_comes e seat c (Err NotSent) call did t l = absurd call.0.1
