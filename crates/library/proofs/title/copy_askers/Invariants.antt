use Rattle.std.proofs.Common.{◌≡◌, take}
use Rattle.library.proofs.title.copy_askers.Given as goal

abbrev pub invariant-loop-asker : goal.invariant-loop-asker
invariant-loop-asker l = l.copies.items ≡ take l.asker-index l.askers
