use Rattle.std.proofs.Common.{◌≡◌, length}
use Rattle.trade.specs.Items.{are_apart}
use Rattle.trade.proofs.items.are_apart.Given as goal

abbrev pub invariant-loop-first : goal.invariant-loop-first
invariant-loop-first l = are_apart l.rest ≡ are_apart l.items

abbrev pub decreases-loop-first : goal.decreases-loop-first
decreases-loop-first l = length l.rest
