use Rattle.keep_plain.proofs.Made.{settled_made}
use Rattle.keep_plain.proofs.apply.settle.Goals as goal

pub returns-clause-made : goal.returns-clause-made
returns-clause-made g c =
    settled_made c.args.maps.now c.args.pair c.args.number c.set_mark.new.marks c.empty_upto.new.outbox
    c.set_mark.ensures.sets c.empty_upto.ensures.empties
