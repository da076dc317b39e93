-- How the calls of a store end.
use Rattle.std.proofs.Common.{◌≡◌, ◌≤◌, ◌⊎◌, inl, inr, ℕ, Bool, true, false, Result}
use Rattle.std.proofs.Common.{Ok, Err, IfOk}
use Rattle.std.proofs.Common.{IsTrue, refl, sym, ap, subst, ◌∙◌, arith, Option}
use Rattle.base.specs.Entity.{Entity}
use Rattle.last_states.specs.Known.{Knows}
use Rattle.sqlite_trees.specs.Tree.{Trees}
use Rattle.sqlite_trees.specs.View.{doubt}
use Rattle.sqlite.specs.declared.error.Error.{Error}
use Rattle.sqlite.specs.Effect.{Database}
use Rattle.sqlite.specs.State.{State, HasCleanDisk}
use Rattle.keep.specs.Seen.{Seen, keep_end}
use Rattle.keep.specs.Law.{MoreFailures, Reads, Writes}
use Rattle.keep.specs.Tables.{Tables}
use Rattle.keep.specs.declared.fault.KeepFault.{KeepFault}
use Rattle.keep.specs.declared.fault.KeepFault.TheVariants.{Failed}
use Rattle.sql_rows.specs.Tables.{Stays}
use Rattle.keep_sqlite.specs.Filing.{Filing}
use Rattle.keep_sqlite.specs.Tables.{tables_of}
use Rattle.keep_sqlite.specs.Law.{seen_of, LeavesTables}
use Rattle.keep_sqlite.specs.Ready.{IsReady, IsEnd}

-- a stop leaves the trees now, of a connection that is ready
pub only_settled : {S C : Type 0} (f : Filing S C) (count : ℕ) (s : State)
    → (HasCleanDisk s → IsTrue s.is_open → IsReady f.schema count s) → (HasCleanDisk s → IsTrue s.is_open)
    → (IsTrue s.is_open → (db : Trees) → s.may_leave db → db ≡ s.committed.trees) → HasCleanDisk s → (db : Trees)
    → s.may_leave db → db ≡ s.now.trees
only_settled f count s sound live settled clean db may =
    settled (live clean) db may ∙ ap (λ (d : Database). d.trees) (sym (sound clean (live clean)).settled)

-- what is known of states stays so behind a read
pub known_stays : {S C : Type 0} (f : Filing S C) (known : Entity → Option S) (old new : State)
    → (HasCleanDisk old → IsTrue old.is_open → Knows known (f.entity old.now.trees))
    → doubt old.is_clean ≤ doubt new.is_clean → (HasCleanDisk new → Stays old new) → HasCleanDisk new
    → IsTrue new.is_open → Knows known (f.entity new.now.trees)
known_stays f known old new knows less stays clean live =
    let s = stays clean in
    subst (λ (d : Database). Knows known (f.entity d.trees)) (sym (s.now_is live))
    (knows (omega (arith, clean, less)) (s.was_open live))

-- `E` are the stores, with their connections, their use and their failures
module _ {E S C : Type 0} (f : Filing S C) (conn : E → State) (usable : E → Bool) (failures : E → ℕ) where
  abbrev seen : E → Seen (Tables S C)
  seen k = seen_of f (conn k) (usable k) (failures k)

  module _ (old new : E) (mid : State) (used : usable old ≡ true)
      (settled : HasCleanDisk (conn old) → (db : Trees) → (conn old).may_leave db → db ≡ (conn old).now.trees)
      (clean : doubt (conn old).is_clean ≤ doubt mid.is_clean) (later : doubt mid.is_clean ≤ doubt (conn new).is_clean)
      (live : IsTrue (usable new) → HasCleanDisk (conn new) → IsTrue (conn new).is_open)
      (stays : HasCleanDisk (conn new) → Stays mid (conn new))
      (crash : HasCleanDisk (conn new) → (db : Trees) → (conn new).may_leave db → mid.may_leave db) where
    first_clean : HasCleanDisk (conn new) → HasCleanDisk (conn old)
    first_clean c = omega (arith, c, clean, later)

    mid_clean : HasCleanDisk (conn new) → HasCleanDisk mid
    mid_clean c = omega (arith, c, later)

    no_doubt : (seen old).doubt ≤ (seen new).doubt
    no_doubt = omega (arith, clean, later)

    -- a read
    module _ {R : Type 0} (gives : Tables S C → R → Type 0) (done : Result R Error) (result : Result R KeepFault)
        (value : HasCleanDisk mid → IfOk done (gives (tables_of f (conn old).now.trees)))
        (kept : HasCleanDisk mid → Stays (conn old) mid)
        (left : HasCleanDisk mid → (db : Trees) → mid.may_leave db → (conn old).may_leave db) where
      same : IsTrue (usable new) → HasCleanDisk (conn new)
          → tables_of f (conn new).now.trees ≡ tables_of f (conn old).now.trees
      same u c =
          let here = live u c in
          let s = stays c in
          ap (λ (d : Database). tables_of f d.trees) (s.now_is here ∙ (kept (mid_clean c)).now_is (s.was_open here))

      leaves : HasCleanDisk (conn new) → (t : Tables S C) → LeavesTables f (conn new).may_leave t
          → t ≡ tables_of f (conn old).now.trees
      leaves c t it = it.reads
          ∙ ap (tables_of f) (settled (first_clean c) it.db (left (mid_clean c) it.db (crash c it.db it.may)))

      pub read_ends : IsEnd done result (usable new) (failures old) (failures new)
          → Reads seen old new gives (keep_end result)
      read_ends = go done value
        where
          go : (d : Result R Error) → (HasCleanDisk mid → IfOk d (gives (tables_of f (conn old).now.trees)))
              → IsEnd d result (usable new) (failures old) (failures new) → Reads seen old new gives (keep_end result)
          go (Ok r) v e = rw e.0 (record {
            call = (used, e.1, e.2, refl);
            doubt = no_doubt;
            clean = λ c. (v (mid_clean c), same e.1 c);
          })
          go (Err x) v (inl e) = rw e.0 (record {
            call = (used, e.1, e.2, refl);
            doubt = no_doubt;
            clean = λ c. same e.1 c;
          })
          go (Err x) v (inr e) = rw e.0 (record {
            call = (used, e.1, e.2, inl refl);
            doubt = no_doubt;
            clean = leaves;
          })

    -- a transaction that was undone, or refused at its end
    module _ (Fit : Tables S C → Type 0) (to : Tables S C → Tables S C) (result : Result Unit KeepFault)
        (either : (db : Trees) → HasCleanDisk mid → mid.may_leave db
        → (conn old).may_leave db ⊎ (tables_of f db ≡ to (tables_of f (conn old).now.trees))) where
      leaves_either : HasCleanDisk (conn new) → (t : Tables S C) → LeavesTables f (conn new).may_leave t
          → (t ≡ tables_of f (conn old).now.trees) ⊎ (t ≡ to (tables_of f (conn old).now.trees))
      leaves_either c t it = elim (either it.db (mid_clean c) (crash c it.db it.may)) [
        | inl was ↦ inl (it.reads ∙ ap (tables_of f) (settled (first_clean c) it.db was))
        | inr is ↦ inr (it.reads ∙ is)
      ]

      pub write_failed : result ≡ Err Failed → usable new ≡ false → MoreFailures (failures old) (failures new)
          → Writes seen old new Fit to (keep_end result)
      write_failed is shut more = rw is (record {
        call = (used, shut, more, inl refl);
        doubt = no_doubt;
        clean = λ c _. leaves_either c;
      })

      pub write_undone : (HasCleanDisk mid → IsTrue mid.is_open → mid.now.trees ≡ (conn old).now.trees) → (x : Error)
          → IsEnd (Err x) result (usable new) (failures old) (failures new)
          → Writes seen old new Fit to (keep_end result)
      write_undone undone x (inl e) = rw e.0 (record {
        call = (used, e.1, e.2, refl);
        doubt = no_doubt;
        clean = λ c _.
            let here = live e.1 c in
            let s = stays c in
            ap (λ (d : Database). tables_of f d.trees) (s.now_is here)
            ∙ ap (tables_of f) (undone (mid_clean c) (s.was_open here));
      })
      write_undone undone x (inr e) = write_failed e.0 e.1 e.2
