-- How it's told that a store couldn't be opened.
use Rattle.std.specs.Prelude.{ℕ, List, codes}
use Rattle.keep.specs.declared.fault.KeepFault.{KeepFault}
use Rattle.keep.specs.declared.fault.KeepFault.TheVariants.{Failed, Memory, WrongFile}
use Rattle.schedule_io.specs.declared.fault.StoresFault.{StoresFault}
use Rattle.schedule_io.specs.declared.fault.StoresFault.TheVariants.{Purchasing, Warehouse, Billing}

-- why it couldn't, whosever it is
abbrev pub fault_in : StoresFault → KeepFault
fault_in (Purchasing fault) = fault
fault_in (Warehouse fault) = fault
fault_in (Billing fault) = fault

-- a keep's fault in words, as they follow the service's name
abbrev pub keep_fault_words : KeepFault → List ℕ
keep_fault_words Failed = codes ": the file can't be opened, is damaged, or another program has it"
keep_fault_words Memory = codes ": out of memory at the opening of the file"
keep_fault_words WrongFile = codes ": the file is of another service or version, or no database"

-- its number and name alone, on a line below these words
abbrev pub keep_fault_line : KeepFault → List ℕ
keep_fault_line Failed = codes "\nfault 1 Failed\n"
keep_fault_line Memory = codes "\nfault 2 Memory\n"
keep_fault_line WrongFile = codes "\nfault 3 WrongFile\n"

abbrev pub reason_of : StoresFault → List ℕ
reason_of fault = keep_fault_words (fault_in fault)

abbrev pub line_of : StoresFault → List ℕ
line_of fault = keep_fault_line (fault_in fault)

-- the name of the service that it belongs to
abbrev pub service_of : StoresFault → List ℕ
service_of (Purchasing fault) = codes "purchasing"
service_of (Warehouse fault) = codes "warehouse"
service_of (Billing fault) = codes "billing"
