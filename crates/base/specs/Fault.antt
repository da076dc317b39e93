-- The numbers of the faults.
use Rattle.std.specs.Prelude.{ℕ}
use Rattle.base.specs.declared.fault.EntityFault.{EntityFault}
use Rattle.base.specs.declared.fault.EntityFault.TheVariants.{BadKey, BadKind, Memory}

-- a fault's number
abbrev pub entity_fault_number : EntityFault → ℕ
entity_fault_number BadKey = 1
entity_fault_number BadKind = 2
entity_fault_number Memory = 3
