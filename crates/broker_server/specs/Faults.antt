-- The numbers of the faults.
use Rattle.std.specs.Prelude.{ℕ}
use Rattle.broker_server.specs.declared.fault.ServeFault.{ServeFault}
use Rattle.broker_server.specs.declared.fault.ServeFault.TheVariants.{Device, Memory}

-- a fault's number
abbrev pub serve_fault_number : ServeFault → ℕ
serve_fault_number Device = 2
serve_fault_number Memory = 34
