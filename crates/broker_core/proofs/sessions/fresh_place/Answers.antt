use Rattle.broker_core.proofs.Rising.{place_fresh}
use Rattle.broker_core.proofs.sessions.fresh_place.Goals as goal

pub returns-in-None : goal.returns-in-None
returns-in-None c = place_fresh c.args.items.now c.first_fresh.result c.first_fresh.ensures
