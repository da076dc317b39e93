-- The two ways of a wire in memory.
use Rattle.std.specs.Prelude.{ℕ, List, Some}
use Rattle.stomp_wire.specs.Memory.{Queues}
use Rattle.stomp_wire.specs.Travel.{Travels}
use Rattle.stomp_wire.specs.declared.wire.MemoryWire.{MemoryWire}
use Rattle.stomp_wire.specs.declared.wire.Way.{Way}
use Rattle.stomp_wire.specs.declared.wire.Way.TheVariants.{Up, Down}

-- the end from which a way leads
abbrev pub start_of : Way → MemoryWire → Queues
start_of Up wire = wire.near
start_of Down wire = wire.far

-- the end to which a way leads
abbrev pub end_of : Way → MemoryWire → Queues
end_of Up wire = wire.far
end_of Down wire = wire.near

-- on this way these octets were put so far, and these were taken, by any calls in any order
abbrev pub TravelsOn : Way → (put taken : List ℕ) → MemoryWire → Type 0
TravelsOn way put taken wire = Travels put taken (Some (start_of way wire).waiting) (Some (end_of way wire).carried)
