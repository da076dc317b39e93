use Rattle.keep_plain.specs.Ready.{SameTables}
use Rattle.keep_plain.proofs.apply.sweep_all.Given as goal

abbrev pub invariant-loop-change : goal.invariant-loop-change
invariant-loop-change g l = SameTables l.fn.maps l.maps
