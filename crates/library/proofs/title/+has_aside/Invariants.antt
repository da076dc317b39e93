use Rattle.std.proofs.Common.{length}
use Rattle.library.proofs.title.+has_aside.Given as goal

abbrev pub decreases-has_aside : goal.decreases-has_aside
decreases-has_aside l = length l.askers.now
