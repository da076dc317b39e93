-- What ends a run whose schedule can't be read.
use Rattle.schedule_text.specs.declared.fault.ScheduleFault.{ScheduleFault}
use Rattle.schedule_text.specs.declared.fault.ScheduleFault.TheVariants as read
use Rattle.schedule_io.specs.declared.fault.RunFault.{RunFault}
use Rattle.schedule_io.specs.declared.fault.RunFault.TheVariants as run

-- a fault of reading a schedule as the run's
abbrev pub run_fault_of : ScheduleFault → RunFault
run_fault_of (read.BadEvent number) = run.BadEvent number
run_fault_of read.Memory = run.Memory
