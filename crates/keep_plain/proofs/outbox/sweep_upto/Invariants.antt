use Rattle.keep.specs.Places.{place_cmp}
use Rattle.keep_plain.specs.Slots.{SameAt}
use Rattle.keep_plain.proofs.outbox.sweep_upto.Given as goal

abbrev pub invariant-loop-number : goal.invariant-loop-number
invariant-loop-number l = SameAt place_cmp l.fn.outbox l.outbox

abbrev pub decreases-loop-number : goal.decreases-loop-number
decreases-loop-number l = l.place.number
