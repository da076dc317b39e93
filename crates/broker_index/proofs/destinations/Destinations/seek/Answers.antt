use Rattle.std.proofs.Common.{◌≡◌, sym, ap, ◌∙◌}
use Rattle.std.specs.Option.{option_map}
use Rattle.broker_index.specs.Index.{Queue}
use Rattle.broker_index.specs.declared.destinations.Destination.{Destination}
use Rattle.broker_index.proofs.Named.{none_in, queue_there}
use Rattle.broker_index.proofs.destinations.Destinations.seek.Goals as goal

pub returns-in-Some-clause-told : goal.returns-in-Some-clause-told
returns-in-Some-clause-told c =
    let found = c.in-Some.ensures.found in
    let same : c.index.result.now ≡ found.0 = cc (c.index.ensures, found.1) in
    rw (← c.self.view_is, c.count.ensures, c.ready_from.ensures) (sym (ap (λ o. option_map (λ (q : Queue). (q.count, q.ready_from)) o)
    (queue_there c.self.inside.slab c.self.inside.keys c.self.invariant.found c.args.name.now
    c.in-Some.key
    c.index.result.now c.index.ensures (ap (λ (d : Destination). d.name) same ∙ found.2))))

pub returns-in-None-clause-told : goal.returns-in-None-clause-told
returns-in-None-clause-told c =
    rw (← c.self.view_is) (sym (ap (λ o. option_map (λ (q : Queue). (q.count, q.ready_from)) o)
    (none_in c.args.name.now c.self.inside.slab.slots c.in-None.ensures.absent)))
