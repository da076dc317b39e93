-- Examples: the lines that tell faults.
use Rattle.std.proofs.Common.{◌≡◌, refl}
use Rattle.std.specs.Prelude.{codes}
use Rattle.std.specs.Fmt.{digits}
use Rattle.schedule_text.specs.declared.fault.ScheduleFault.TheVariants as read
use Rattle.schedule_io.specs.declared.fault.RunFault.TheVariants.{BadEvent, Memory, Device, Unopened}
use Rattle.keep.specs.declared.fault.KeepFault.TheVariants as keep
use Rattle.schedule_io.specs.declared.fault.StoresFault.TheVariants.{Purchasing, Warehouse, Billing}
use Rattle.schedule_io.specs.Ends.{fault_line}
use Rattle.schedule_io.specs.RunFaults.{run_fault_of}

-- why a schedule wasn't run to its end
run_faults_are_told : (fault_line (BadEvent 12) ≡ codes "line 12: bad event\n")
    × (fault_line Memory ≡ codes "fault 81 Memory\n")
    × (fault_line Device ≡ codes "fault 2 Device\n")
unfolding digits
run_faults_are_told = (refl, refl, refl)

-- which service's store couldn't be opened, and why not; the fault is the last line, and alone on it
unopened_stores_are_told : (fault_line (Unopened (Purchasing keep.Failed))
    ≡ codes "purchasing: the file can't be opened, is damaged, or another program has it\nfault 1 Failed\n")
    × (fault_line (Unopened (Warehouse keep.Memory))
    ≡ codes "warehouse: out of memory at the opening of the file\nfault 2 Memory\n")
    × (fault_line (Unopened (Billing keep.WrongFile))
    ≡ codes "billing: the file is of another service or version, or no database\nfault 3 WrongFile\n")
unopened_stores_are_told = (refl, refl, refl)

-- a schedule's fault is the run's: the number of the line, or memory
faults_of_schedules_are_told : (run_fault_of (read.BadEvent 2) ≡ BadEvent 2) × (run_fault_of read.Memory ≡ Memory)
faults_of_schedules_are_told = (refl, refl)
