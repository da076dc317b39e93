-- The open transactions of a session, and the steps that change them.
use Rattle.std.specs.Prelude.{◌≡◌, ℕ, Bool, not, nat_lt, if◌then◌else◌, List, [], ◌∷◌, ◌++◌, filter, length, Option}
use Rattle.std.specs.Prelude.{Some, None}
use Rattle.std.specs.Prelude.{Result, Ok, Err}
use Rattle.std.specs.List.{find, list_any}
use Rattle.std.specs.Str.{bytes_eq}
use Rattle.base.specs.declared.limits.TheConstants.{MAX_ACTIONS, MAX_TRANSACTIONS}
use Rattle.broker_book.specs.declared.parts.Action.{Action}
use Rattle.broker_tx.specs.First.{first_changed}
use Rattle.broker_tx.specs.declared.fault.TransactionFault.{TransactionFault}
use Rattle.broker_tx.specs.declared.fault.TransactionFault.TheVariants.{TransactionExists, NoTransaction, Memory}
use Rattle.broker_tx.specs.declared.fault.TransactionFault.TheVariants.{TooMany}

-- an open transaction: its name, and what it keeps until its end, in order
pub record Transaction : Type 0 where
  pub name : List ℕ
  pub actions : List Action

-- whether a transaction has this name
abbrev pub is_transaction : List ℕ → Transaction → Bool
is_transaction name t = bytes_eq t.name name

-- whether one of this name is open
abbrev pub is_open : List Transaction → List ℕ → Bool
is_open ts name = list_any (is_transaction name) ts

-- what a transaction keeps, if there is one
abbrev pub actions_in : Option Transaction → Option (List Action)
actions_in None = None
actions_in (Some t) = Some t.actions

-- what the transaction of this name keeps
abbrev pub actions_of : List Transaction → List ℕ → Option (List Action)
actions_of ts name = actions_in (find (is_transaction name) ts)

-- ---- steps

-- a transaction begins, the youngest
abbrev pub begin_of : List Transaction → List ℕ → Result (List Transaction) TransactionFault
begin_of ts name =
    if is_open ts name then Err TransactionExists
    else if nat_lt (length ts) MAX_TRANSACTIONS then Ok (ts ++ record { name = name; actions = [] } ∷ [])
    else Err TooMany

-- a transaction with one action more
abbrev pub with_action : Action → Transaction → Transaction
with_action action t = record t { actions = t.actions ++ action ∷ [] }

-- an action more for the transaction of this name, which keeps these
abbrev pub add_to : List Transaction → List ℕ → Action → Option (List Action)
    → Result (List Transaction) TransactionFault
add_to ts name action None = Err NoTransaction
add_to ts name action (Some actions) =
    if nat_lt (length actions) MAX_ACTIONS then Ok (first_changed (is_transaction name) (with_action action) ts)
    else Err TooMany

-- an action is kept until the end of its transaction
abbrev pub add_of : List Transaction → List ℕ → Action → Result (List Transaction) TransactionFault
add_of ts name action = add_to ts name action (actions_of ts name)

-- a transaction ends, carried out or not
abbrev pub end_of : List Transaction → List ℕ → Result (List Transaction) TransactionFault
end_of ts name = if is_open ts name then Ok (filter (λ t. not (is_transaction name t)) ts) else Err NoTransaction

-- ---- answers: a step was made, or it was refused and nothing has changed

-- of a call that takes no memory
abbrev pub Exactly : {A : Type 0} → Result (List Transaction) TransactionFault → List Transaction → List Transaction
    → Result A TransactionFault → Type 0
Exactly step old new (Ok _) = step ≡ Ok new
Exactly step old new (Err fault) = (step ≡ Err fault) × (new ≡ old)

-- of a call that may be refused memory
abbrev pub UnlessMemory : {A : Type 0} → Result (List Transaction) TransactionFault → List Transaction
    → List Transaction
    → Result A TransactionFault → Type 0
UnlessMemory step old new (Ok _) = step ≡ Ok new
UnlessMemory step old new (Err Memory) = new ≡ old
UnlessMemory step old new (Err fault) = (step ≡ Err fault) × (new ≡ old)
