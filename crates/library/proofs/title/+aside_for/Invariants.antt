use Rattle.std.proofs.Common.{length}
use Rattle.library.proofs.title.+aside_for.Given as goal

abbrev pub decreases-aside_for : goal.decreases-aside_for
decreases-aside_for l = length l.askers.now
