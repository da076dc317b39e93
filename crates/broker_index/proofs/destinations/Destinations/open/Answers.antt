use Rattle.broker_index.proofs.Named.{Sets-open, none_in}
use Rattle.broker_index.proofs.destinations.Destinations.open.Goals as goal

pub add-requires : goal.add-requires
add-requires c = rw (← c.self.view_is) (none_in c.args.name.now c.self.inside.slab.slots c.in-None.ensures.absent)

pub returns-in-Some-clause-ok : goal.returns-in-Some-clause-ok
returns-in-Some-clause-ok c =
    let found = c.in-Some.ensures.found in
    rw (← c.self.view_is) (Sets-open c.self.inside.slab c.self.inside.keys c.self.invariant.found c.in-Some.key
    c.args.name.now
    found.0 found.1
    found.2)
