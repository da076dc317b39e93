use Rattle.std.proofs.Common.{◌≡◌}
use Rattle.keep_plain.specs.Listed.{first_key}
use Rattle.keep_plain.proofs.held.first_filled.Given as goal

abbrev pub invariant-loop-pair : goal.invariant-loop-pair
invariant-loop-pair l = first_key l.pair-iterator ≡ first_key l.initial.pair-iterator
