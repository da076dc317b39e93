use Rattle.std.proofs.Common.{length}
use Rattle.text.specs.Escapes.{Spells}
use Rattle.text.proofs.octets.unescape.Given as goal

-- what was read stands in front of the rest
abbrev pub invariant-loop-rest : goal.invariant-loop-rest
invariant-loop-rest l = Spells l.text l.octets.items l.rest

abbrev pub decreases-loop-rest : goal.decreases-loop-rest
decreases-loop-rest l = length l.rest
