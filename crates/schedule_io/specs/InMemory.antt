-- Tables in memory.
use Rattle.keep.specs.Seen.{Seen}
use Rattle.keep.specs.Tables.{Tables}
use Rattle.keep_plain.specs.Memory.{in_memory}
use Rattle.keep_plain.specs.declared.plain.PlainKeep.{PlainKeep}

-- tables in memory, as the store's callers see them
abbrev pub plain : {H S C : Type 0} → PlainKeep H S C → Seen (Tables S C)
plain k = in_memory k.maps
