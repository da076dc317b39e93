-- What a business is read by: the entity that a text names, and the numbers of lines that can't be read.
use Rattle.std.specs.Prelude.{◌≡◌, ℕ, ⊤, Option, Some, None, Result, Ok, Err}
use Rattle.base.specs.Entity.{Entity}
use Rattle.service_program.specs.declared.business.LineFault.{LineFault}
use Rattle.service_program.specs.declared.business.LineFault.TheVariants.{NotMine, Unreadable, Memory}

-- the entity that is named, or `Unreadable` where none is; memory may have run out
abbrev pub IsReadAs : Option Entity → Result Entity LineFault → Type 0
IsReadAs named (Ok entity) = named ≡ Some entity
IsReadAs named (Err Unreadable) = named ≡ None
IsReadAs named (Err Memory) = ⊤
IsReadAs named (Err NotMine) = ⊥

-- what follows `refused`
abbrev pub line_fault_number : LineFault → ℕ
line_fault_number NotMine = 60
line_fault_number Memory = 64
line_fault_number Unreadable = 80
