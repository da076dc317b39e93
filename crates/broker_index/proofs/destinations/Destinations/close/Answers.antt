use Rattle.broker_index.proofs.Named.{Sets-nothing}
use Rattle.broker_index.proofs.destinations.Destinations.close.Goals as goal

pub close_at-requires-clause-there : goal.close_at-requires-clause-there
close_at-requires-clause-there c = c.in-Some.ensures.found

pub returns-in-Some : goal.returns-in-Some
returns-in-Some c = rw (← c.self.view_is) c.close_at.ensures.closed

pub returns-in-None : goal.returns-in-None
returns-in-None c = rw (← c.self.view_is) (Sets-nothing c.self.inside.slab c.args.name.now c.in-None.ensures.absent)
