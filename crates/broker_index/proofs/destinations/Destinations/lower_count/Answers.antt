use Rattle.std.proofs.Common.{◌≡◌, ap, ◌∙◌}
use Rattle.broker_index.specs.Index.{counting_fewer}
use Rattle.broker_index.specs.declared.destinations.Destination.{Destination}
use Rattle.broker_index.proofs.Named.{Sets-absent, Sets-changed, still_indexed}
use Rattle.broker_index.proofs.destinations.Destinations.lower_count.Goals as goal

pub invariant_of-self : goal.invariant_of-self
invariant_of-self c =
    still_indexed c.self.inside.slab c.self.inside.keys c.self.invariant.found c.in-Some.key c.index_mut.result.now
    c.index_mut.ensures.value c.lower_count.new.self c.self.invariant.led

pub returns-in-Some : goal.returns-in-Some
returns-in-Some c =
    let found = c.in-Some.ensures.found in
    let same : c.index_mut.result.now ≡ found.0 = cc (c.index_mut.ensures.value, found.1) in
    rw (← c.self.view_is)
    (Sets-changed c.self.inside.slab c.self.inside.keys c.self.invariant.found c.in-Some.key c.index_mut.result.now
    c.index_mut.ensures.value
    c.lower_count.new.self c.args.name.now counting_fewer (ap (λ (d : Destination). d.name) same ∙ found.2)
    c.lower_count.ensures)

pub returns-in-None : goal.returns-in-None
returns-in-None c =
    rw (← c.self.view_is) (Sets-absent c.self.inside.slab c.args.name.now counting_fewer
    c.in-None.ensures.absent)
