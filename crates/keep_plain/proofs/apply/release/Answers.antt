use Rattle.keep_plain.proofs.Made.{released_made}
use Rattle.keep_plain.proofs.apply.release.Goals as goal

pub returns-clause-made : goal.returns-clause-made
returns-clause-made g c =
    released_made c.args.maps.now c.args.pair c.args.number c.release.new.self c.release.ensures.held
    c.release.ensures.handled
