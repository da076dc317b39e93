use Rattle.keep_plain.proofs.Made.{handled_made}
use Rattle.keep_plain.proofs.apply.handle.Goals as goal

pub returns-clause-made : goal.returns-clause-made
returns-clause-made g c =
    handled_made c.args.maps.now c.args.pair c.args.number c.handle.new.self c.handle.ensures.handled
    c.handle.ensures.held
