-- The numbers and names of the faults.
use Rattle.std.specs.Prelude.{ℕ, List, codes}
use Rattle.broker_tx.specs.declared.fault.TransactionFault.{TransactionFault}
use Rattle.broker_tx.specs.declared.fault.TransactionFault.TheVariants.{TransactionExists, NoTransaction, Memory}
use Rattle.broker_tx.specs.declared.fault.TransactionFault.TheVariants.{TooMany}

-- a fault's number
abbrev pub transaction_fault_number : TransactionFault → ℕ
transaction_fault_number TransactionExists = 29
transaction_fault_number NoTransaction = 30
transaction_fault_number Memory = 34
transaction_fault_number TooMany = 36

-- a fault's name, as an ERROR tells it behind the number
abbrev pub transaction_fault_name : TransactionFault → List ℕ
transaction_fault_name TransactionExists = codes "TransactionExists"
transaction_fault_name NoTransaction = codes "NoTransaction"
transaction_fault_name Memory = codes "Memory"
transaction_fault_name TooMany = codes "TooMany"
