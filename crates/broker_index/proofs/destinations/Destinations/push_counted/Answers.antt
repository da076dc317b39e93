use Rattle.std.proofs.Common.{◌≡◌, ap, ◌∙◌}
use Rattle.broker_index.specs.Index.{with_counted}
use Rattle.broker_index.specs.declared.destinations.Destination.{Destination}
use Rattle.broker_index.proofs.Named.{Sets-absent, Sets-changed, on_ok, queue_there, still_indexed}
use Rattle.broker_index.proofs.destinations.Destinations.push_counted.Goals as goal

pub invariant_of-self : goal.invariant_of-self
invariant_of-self c =
    still_indexed c.self.inside.slab c.self.inside.keys c.self.invariant.found c.in-Some.key c.index_mut.result.now
    c.index_mut.ensures.value c.push_counted.new.self c.self.invariant.led

pub push_counted-requires-clause-above : goal.push_counted-requires-clause-above
push_counted-requires-clause-above c =
    let found = c.in-Some.ensures.found in
    let same : c.index_mut.result.now ≡ found.0 = cc (c.index_mut.ensures.value, found.1) in
    c.requires.above c.index_mut.result.now.queue
    (rw (← c.self.view_is) (queue_there c.self.inside.slab c.self.inside.keys c.self.invariant.found c.args.name.now
    c.in-Some.key
    c.index_mut.result.now c.index_mut.ensures.value (ap (λ (d : Destination). d.name) same ∙ found.2)))

pub push_counted-requires-clause-room : goal.push_counted-requires-clause-room
push_counted-requires-clause-room c =
    let found = c.in-Some.ensures.found in
    let same : c.index_mut.result.now ≡ found.0 = cc (c.index_mut.ensures.value, found.1) in
    c.requires.room c.index_mut.result.now.queue
    (rw (← c.self.view_is) (queue_there c.self.inside.slab c.self.inside.keys c.self.invariant.found c.args.name.now
    c.in-Some.key
    c.index_mut.result.now c.index_mut.ensures.value (ap (λ (d : Destination). d.name) same ∙ found.2)))

pub returns-in-Some-clause-ok : goal.returns-in-Some-clause-ok
returns-in-Some-clause-ok c =
    let found = c.in-Some.ensures.found in
    let same : c.index_mut.result.now ≡ found.0 = cc (c.index_mut.ensures.value, found.1) in
    on_ok c.push_counted.result c.push_counted.ensures.ok (λ changed. rw (← c.self.view_is)
    (Sets-changed c.self.inside.slab c.self.inside.keys c.self.invariant.found c.in-Some.key c.index_mut.result.now
    c.index_mut.ensures.value
    c.push_counted.new.self c.args.name.now (with_counted c.args.place) (ap (λ (d : Destination). d.name) same ∙ found.2)
    changed))

pub returns-in-None-clause-ok : goal.returns-in-None-clause-ok
returns-in-None-clause-ok c =
    rw (← c.self.view_is) (Sets-absent c.self.inside.slab c.args.name.now (with_counted c.args.place)
    c.in-None.ensures.absent)
