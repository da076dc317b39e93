-- Examples: transactions that begin, take actions and end.
use Rattle.std.proofs.Common.{◌≡◌, List, ◌∷◌, [], ℕ, true, false, refl}
use Rattle.std.specs.Prelude.{codes, Some, None, Ok, Err}
use Rattle.broker_book.specs.declared.parts.Action.{Action}
use Rattle.broker_book.specs.declared.parts.Action.TheVariants.{Ack, Nack}
use Rattle.broker_tx.specs.declared.fault.TransactionFault.TheVariants.{TransactionExists, NoTransaction, Memory}
use Rattle.broker_tx.specs.declared.fault.TransactionFault.TheVariants.{TooMany}
use Rattle.broker_tx.specs.Faults.{transaction_fault_number, transaction_fault_name}
use Rattle.broker_tx.specs.Sizes.{open_octets}
use Rattle.broker_tx.specs.Transactions.{Transaction, is_open, actions_of, begin_of, add_of, end_of, Exactly}
use Rattle.broker_tx.specs.Transactions.{UnlessMemory}

-- the transaction of a name that keeps these actions
abbrev keeping : List ℕ → List Action → Transaction
keeping name actions = record { name = name; actions = actions }

-- two are open, and the second keeps an action
abbrev two : List Transaction
two = keeping (codes "t1") [] ∷ keeping (codes "t2") (Ack 7 ∷ []) ∷ []

names_are_open : (is_open two (codes "t1") ≡ true) × (is_open two (codes "t2") ≡ true)
    × (is_open two (codes "t") ≡ false)
names_are_open = (refl, refl, refl)

actions_are_kept : (actions_of two (codes "t1") ≡ Some []) × (actions_of two (codes "t2") ≡ Some (Ack 7 ∷ []))
    × (actions_of two [] ≡ None)
actions_are_kept = (refl, refl, refl)

-- what transactions keep is counted, and not that they are open
actions_are_counted : (open_octets two ≡ 32) × (open_octets (keeping (codes "t") (Ack 7 ∷ Nack 8 ∷ []) ∷ two) ≡ 96)
actions_are_counted = (refl, refl)

-- the one that begins is the youngest and keeps nothing; an open name begins no second one
transactions_begin : (begin_of [] (codes "t1") ≡ Ok (keeping (codes "t1") [] ∷ []))
    × (begin_of two (codes "t3") ≡ Ok (keeping (codes "t1") [] ∷ keeping (codes "t2") (Ack 7 ∷ []) ∷ keeping
    (codes "t3") [] ∷ []))
    × (begin_of two (codes "t2") ≡ Err TransactionExists)
transactions_begin = (refl, refl, refl)

-- an action goes behind those that its transaction keeps, and to no other
actions_are_added : (add_of two (codes "t2") (Nack 8) ≡ Ok (keeping (codes "t1") [] ∷ keeping (codes "t2")
    (Ack 7 ∷ Nack 8 ∷ []) ∷ []))
    × (add_of two (codes "t3") (Nack 8) ≡ Err NoTransaction)
actions_are_added = (refl, refl)

-- the one that ends is open no more
transactions_end : (end_of two (codes "t1") ≡ Ok (keeping (codes "t2") (Ack 7 ∷ []) ∷ []))
    × (end_of two (codes "t3") ≡ Err NoTransaction)
transactions_end = (refl, refl)

-- a call that takes no memory answers as its step does; another may want memory, and nothing has changed then
answers_are_steps : (Exactly {A = ℕ} (end_of two (codes "t3")) two two (Err NoTransaction))
    × (UnlessMemory {A = ℕ} (begin_of two (codes "t3")) two two (Err Memory))
    × (Exactly {A = ℕ} (end_of two (codes "t1")) two two (Err Memory) → ⊥)
answers_are_steps = ((refl, refl), refl, λ told. let same = told.0 in cc)

-- faults are numbered and named
faults_are_numbered : (transaction_fault_number TransactionExists ≡ 29) × (transaction_fault_number NoTransaction ≡ 30)
    × (transaction_fault_number Memory ≡ 34) × (transaction_fault_number TooMany ≡ 36)
faults_are_numbered = (refl, refl, refl, refl)

faults_are_named : (transaction_fault_name TransactionExists ≡ codes "TransactionExists")
    × (transaction_fault_name TooMany
    ≡ codes "TooMany")
faults_are_named = (refl, refl)
