use Rattle.std.proofs.Common.{◌≡◌, sym, ap, ◌∙◌}
use Rattle.broker_index.specs.declared.destinations.Destination.{Destination}
use Rattle.broker_index.proofs.Named.{none_in, queue_there}
use Rattle.broker_index.proofs.destinations.Destinations.get.Goals as goal

pub returns-in-Some : goal.returns-in-Some
returns-in-Some c =
    let found = c.in-Some.ensures.found in
    let same : c.index.result.now ≡ found.0 = cc (c.index.ensures, found.1) in
    rw (← c.self.view_is) (sym (queue_there c.self.inside.slab c.self.inside.keys c.self.invariant.found c.args.name.now
    c.in-Some.key
    c.index.result.now c.index.ensures (ap (λ (d : Destination). d.name) same ∙ found.2)))

pub returns-in-None : goal.returns-in-None
returns-in-None c =
    rw (← c.self.view_is) (sym (none_in c.args.name.now c.self.inside.slab.slots c.in-None.ensures.absent))
