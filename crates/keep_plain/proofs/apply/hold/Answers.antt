use Rattle.keep_plain.proofs.Made.{held_made}
use Rattle.keep_plain.proofs.apply.hold.Goals as goal

pub returns-clause-made : goal.returns-clause-made
returns-clause-made g c =
    held_made c.args.maps.now c.args.letter c.hold.new.self c.hold.ensures.held c.hold.ensures.handled
