-- What a look tells of a connection.
use Rattle.std.proofs.Common.{◌≡◌, inl, inr, ℕ, List, [], Result, Ok, Err, IfErr, IfOk, OnOk, IsTrue}
use Rattle.sqlite_trees.specs.declared.error.StoreError.{StoreError}
use Rattle.sqlite_trees.specs.declared.error.StoreError.TheVariants.{OutOfMemory, Io, Corrupt, Full, Broken, Unstorable}
use Rattle.sqlite_value.specs.Order.{Row}
use Rattle.sqlite.specs.State.{State, HasCause, IsNoStatement, IsNotRun, IsUnchanged, store_error}
use Rattle.sqlite.specs.declared.error.Error.{Error}
use Rattle.keep.specs.declared.fault.KeepFault.{KeepFault}
use Rattle.keep.specs.declared.fault.KeepFault.TheVariants.{Failed}
use Rattle.keep_sqlite.specs.Look.{look_end, IsShut}

-- what a look tells whatever it met: that the connection is open, or that it was shut, where it says so
abbrev pub LooksTrue : State → State → Result Unit KeepFault → Type 0
LooksTrue old new result = OnOk result (IsTrue new.is_open) × (result ≡ Err Failed → IsShut old new)

module _ (old new : State) where
  -- the text was refused, and the connection stands
  refused : (X : Type 0) (sql : List ℕ) (params : Row) (e : Error) → IsNoStatement old sql params e → IsTrue new.is_open
      → LooksTrue old new (look_end {X = X} (Err e))
  refused X sql params e (inl why) live = rw why.2 (live, λ is. absurd cc)
  refused X sql params e (inr (c, is, inl why)) live = rw why.1 (live, λ is. absurd cc)
  refused X sql params e (inr (c, is, inr (inl why))) live = rw why.1 (live, λ is. absurd cc)
  refused X sql params e (inr (c, is, inr (inr why))) live = rw why.1 (live, λ is. absurd cc)

  -- the store failed
  failed : (X : Type 0) (cause : StoreError) → HasCause old new ⊥ cause
      → LooksTrue old new (look_end {X = X} (Err (store_error cause)))
  failed X OutOfMemory has = (tt, λ is. absurd cc)
  failed X Io has = (tt, λ is. inr has)
  failed X Corrupt has = (tt, λ is. inr has)
  failed X Full has = (tt, λ is. inr has)
  failed X Broken has = (tt, λ is. inl has)
  failed X Unstorable has = absurd has

  not_run : (X : Type 0) (sql : List ℕ) (e : Error) → IsNotRun old new sql [] e
      → LooksTrue old new (look_end {X = X} (Err e))
  unfolding IsNotRun
  not_run X sql e (inl h) = refused X sql [] e h.0 h.1.0.is_open
  not_run X sql e (inr h) = rw h.1 (failed X h.0 h.2)

  pub looks_true : {X : Type 0} (P : X → Type 0) (sql : List ℕ) (done : Result X Error)
      → IfOk done (λ s. P s × IsUnchanged old new) → IfErr done (λ e. (params : Row) → IsNotRun old new sql params e)
      → LooksTrue old new (look_end done)
  looks_true {X} P sql (Ok s) ok err = (ok.1.0.is_open, λ is. absurd cc)
  looks_true {X} P sql (Err e) ok err = not_run X sql e (err [])
