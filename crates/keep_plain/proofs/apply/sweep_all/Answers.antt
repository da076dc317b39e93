use Rattle.keep_plain.proofs.Made.{same_after}
use Rattle.keep_plain.proofs.apply.sweep_all.Goals as goal

pub loop-change-preserved : goal.loop-change-preserved
loop-change-preserved g c =
    same_after c.args.maps.now c.loop-change.maps c.sweep_change.new.maps c.loop-change.invariant
    c.sweep_change.ensures
