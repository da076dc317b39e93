use Rattle.std.proofs.Common.{◌≡◌, ◌++◌, flat_map, string_bytes, take}
use Rattle.text.specs.Escapes.{spelled}
use Rattle.text.proofs.octets.push_octets.Given as goal

-- the octets so far were appended
abbrev pub invariant-loop-octet : goal.invariant-loop-octet
invariant-loop-octet l = string_bytes l.text ≡ string_bytes l.fn.text ++ flat_map spelled (take l.octet-index l.octets)
