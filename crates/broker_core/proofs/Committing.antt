-- A transaction that is there is open, and ends.
use Rattle.std.proofs.Common.{◌≡◌, ℕ, Bool, true, false, cond, List, [], ◌∷◌, Some, Result, Ok, Err, refl}
use Rattle.std.specs.List.{find, list_any}
use Rattle.broker_book.specs.Books.{Book}
use Rattle.broker_book.specs.Steps.{apply_of}
use Rattle.broker_book.specs.declared.parts.Action.{Action}
use Rattle.broker_tx.specs.Transactions.{Transaction, Exactly, actions_in, actions_of, end_of, is_open, is_transaction}
use Rattle.broker_tx.specs.declared.fault.TransactionFault.{TransactionFault}
use Rattle.broker_core.specs.Parts.Taking.{Performs, lifted_transaction}
use Rattle.broker_core.specs.Performing.{Reach, reach, commit_done}

found_step : (p : Transaction → Bool) (t : Transaction) (ts : List Transaction) (actions : List Action) (b : Bool)
    → p t ≡ b
    → (actions_in (find p ts) ≡ Some actions → list_any p ts ≡ true) → actions_in (find p (t ∷ ts)) ≡ Some actions
    → list_any p (t ∷ ts) ≡ true
found_step p t ts actions true e ih h = rw e refl
found_step p t ts actions false e ih h = rw e (ih (rw e at h))

found_open : (p : Transaction → Bool) (ts : List Transaction) (actions : List Action)
    → actions_in (find p ts) ≡ Some actions
    → list_any p ts ≡ true
found_open p [] actions h = cc
found_open p (t ∷ ts) actions h = found_step p t ts actions (p t) refl (found_open p ts actions) h

never : {A B : Type 0} (b : Bool) (x : A) (y z : B) → b ≡ true → cond {A = Result A B} b (Ok x) (Err y) ≡ Err z → ⊥
never true x y z e h = cc
never false x y z e h = cc

-- to apply a transaction's actions and then to end it is a COMMIT
pub committed : (full session : ℕ) (r : Reach) (name : List ℕ) (actions : List Action) (book : Book)
    (ts : List Transaction)
    (answer : Result (Unit {0}) TransactionFault) → actions_of r.transactions name ≡ Some actions
    → apply_of full session r.book actions ≡ Ok book
    → Exactly (end_of r.transactions name) r.transactions ts answer
    → Performs (commit_done full r session name (actions_of r.transactions name)) r (reach book ts)
    (lifted_transaction answer)
committed full session r name actions book ts (Ok x) a b h = rw (a, b, h) refl
committed full session r name actions book ts (Err fault) a b h =
    absurd (never (is_open r.transactions name) _ _ fault (found_open (is_transaction name) r.transactions actions a)
    h.0)
