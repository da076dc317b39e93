-- The numbers of the faults.
use Rattle.std.specs.Prelude.{ℕ}
use Rattle.receipts.specs.declared.fault.ReceiptFault.{ReceiptFault}
use Rattle.receipts.specs.declared.fault.ReceiptFault.TheVariants.{Memory, NumbersUsed}

-- a fault's number
abbrev pub receipt_fault_number : ReceiptFault → ℕ
receipt_fault_number Memory = 1
receipt_fault_number NumbersUsed = 2
