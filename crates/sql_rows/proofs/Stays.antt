-- What a query of a plain text leaves.
use Rattle.std.proofs.Common.{List, [], ℕ, IfOk, IfErr, OnOk, ◌≡◌, ◌⊎◌, inl, inr, IsTrue, Ok, Err, Result, sym, subst}
use Rattle.std.proofs.Common.{◌∙◌, append-nil}
use Rattle.sqlite.specs.Order.{Row}
use Rattle.sqlite.specs.Listing.{understood}
use Rattle.sqlite.specs.State.{State, IsUnchanged, IsRolledBack, IsNotRun, IsTooLate, KeepsCommit, Shown as ShownAs}
use Rattle.sqlite.specs.State.{FailsToQuery}
use Rattle.sqlite.specs.declared.error.Error.{Error}
use Rattle.sqlite.proofs.Callers.{IsPlain}
use Rattle.sql_rows.specs.Tables.{Stays}

-- a query that shows rows changes nothing
shown_same : (old new : State) (sql : List ℕ) (params : Row) → IsPlain (understood old.now.schema sql)
    → (rows : List Row) → ShownAs sql params old new rows → IsUnchanged old new
unfolding ShownAs
shown_same old new sql params plain rows h =
    let bare = subst IsPlain h.1.is plain in
    let it = rw (bare.0, bare.1, append-nil params) at h.2 in
    it.3

module _ (old new : State) (settled : IsTrue old.is_open → old.now ≡ old.committed) where
  pub unchanged_stays : IsUnchanged old new → Stays old new
  unchanged_stays same = record {
    was_open = λ _. same.0.was_open;
    now_is = λ _. same.0.now_is;
    committed_is = λ _.
        same.0.committed_is;
  }

  pub undone_stays : IsRolledBack old new → Stays old new
  undone_stays undone = record {
    was_open = undone.was_open;
    now_is = λ live. (undone.undone live).0 ∙ sym (settled (undone.was_open live));
    committed_is = λ live. (undone.undone live).1;
  }

  pub not_run_stays : (sql : List ℕ) (params : Row) (e : Error) → IsNotRun old new sql params e → Stays old new
  unfolding IsNotRun
  not_run_stays sql params e (inl h) = unchanged_stays h.1
  not_run_stays sql params e (inr h) = undone_stays h.3

  pub prepared_stays : {X : Type 0} (P : X → Type 0) (sql : List ℕ) (r : Result X Error)
      → IfOk r (λ s. P s × IsUnchanged old new) → IfErr r (λ e. (params : Row) → IsNotRun old new sql params e)
      → Stays old new
  prepared_stays P sql (Ok s) ok err = unchanged_stays ok.1
  prepared_stays P sql (Err e) ok err = not_run_stays sql [] e (err [])

  module _ (sql : List ℕ) (params : Row) (plain : IsPlain (understood old.now.schema sql)) where
    here_same : (rows : List Row) → ShownAs sql params old new rows → IsUnchanged old new
    here_same rows h = shown_same old new sql params plain rows h

    pub failed_stays : (e : Error) → FailsToQuery sql params old new e → Stays old new
    unfolding FailsToQuery
    failed_stays e (inl h) = not_run_stays sql params e h
    failed_stays e (inr h) =
        let bare = subst IsPlain h.1.is plain in
        let it = rw bare.0 at h.2 in
        unchanged_stays it.3

    pub read_stays : {X : Type 0} (items : X → List Row) (r : Result X Error)
        → IfOk r (λ v. ShownAs sql params old new (items v)) → IfErr r (FailsToQuery sql params old new)
        → Stays old new
    read_stays items (Ok v) ok err = unchanged_stays (here_same (items v) ok)
    read_stays items (Err e) ok err = failed_stays e err

    pub read_open : {X : Type 0} (items : X → List Row) (r : Result X Error)
        → IfOk r (λ v. ShownAs sql params old new (items v)) → OnOk r (IsTrue new.is_open)
    read_open items (Ok v) ok = (here_same (items v) ok).0.is_open
    read_open items (Err e) ok = tt

-- ---- a query in a transaction

module _ (old new : State) where
  unchanged_keeps : IsUnchanged old new → KeepsCommit old new
  unchanged_keeps same = record { was_open = λ _. same.0.was_open; committed = λ _. same.0.committed_is }

  not_run_keeps : (sql : List ℕ) (params : Row) (e : Error) → IsNotRun old new sql params e → KeepsCommit old new
  unfolding IsNotRun
  not_run_keeps sql params e (inl h) = unchanged_keeps h.1
  not_run_keeps sql params e (inr h) = record { was_open = h.3.was_open; committed = λ live. (h.3.undone live).1 }

  module _ (sql : List ℕ) (params : Row) (plain : IsPlain (understood old.now.schema sql)) where
    failed_keeps : (e : Error) → FailsToQuery sql params old new e → KeepsCommit old new
    unfolding FailsToQuery
    failed_keeps e (inl h) = not_run_keeps sql params e h
    failed_keeps e (inr h) =
        let bare = subst IsPlain h.1.is plain in
        let it = rw bare.0 at h.2 in
        unchanged_keeps it.3

    pub looked_keeps : {X : Type 0} (items : X → List Row) (r : Result X Error)
        → IfOk r (λ v. ShownAs sql params old new (items v))
        → IfErr r (λ e. FailsToQuery sql params old new e ⊎ IsTooLate sql params old new e) → KeepsCommit old new
    looked_keeps items (Ok v) ok err = unchanged_keeps (shown_same old new sql params plain (items v) ok)
    looked_keeps items (Err e) ok (inl h) = failed_keeps e h
    looked_keeps items (Err e) ok (inr h) = unchanged_keeps h.5

    pub looked_same : {X : Type 0} (items : X → List Row) (r : Result X Error)
        → IfOk r (λ v. ShownAs sql params old new (items v)) → OnOk r (IsUnchanged old new)
    looked_same items (Ok v) ok = shown_same old new sql params plain (items v) ok
    looked_same items (Err e) ok = tt
