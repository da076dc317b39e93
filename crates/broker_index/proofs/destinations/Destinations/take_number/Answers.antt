use Rattle.std.proofs.Common.{◌≡◌, ap, refl, ◌∙◌}
use Rattle.broker_index.specs.Index.{queue_at, taken_number, without_number}
use Rattle.broker_index.specs.Named.{queues_in}
use Rattle.broker_index.specs.declared.destinations.Destination.{Destination}
use Rattle.broker_index.proofs.Named.{Sets-changed, Sets-none_taken, Sets-taken, still_indexed, still_there}
use Rattle.broker_index.proofs.destinations.Destinations.take_number.Goals as goal

pub close_at-requires-clause-indexed : goal.close_at-requires-clause-indexed
close_at-requires-clause-indexed c =
    still_indexed c.self.inside.slab c.self.inside.keys c.self.invariant.found c.in-Some.key c.index_mut.result.now
    c.index_mut.ensures.value c.remove_number.new.self c.self.invariant.led

pub close_at-requires-clause-there : goal.close_at-requires-clause-there
close_at-requires-clause-there c =
    let found = c.in-Some.ensures.found in
    let same : c.index_mut.result.now ≡ found.0 = cc (c.index_mut.ensures.value, found.1) in
    still_there c.self.inside.slab c.self.inside.keys c.self.invariant.found c.in-Some.key c.index_mut.result.now
    c.index_mut.ensures.value c.remove_number.new.self c.args.name.now (ap (λ (d : Destination). d.name) same ∙ found.2)

pub returns-in-Some : goal.returns-in-Some
returns-in-Some c =
    let found = c.in-Some.ensures.found in
    let same : c.index_mut.result.now ≡ found.0 = cc (c.index_mut.ensures.value, found.1) in
    rw (← c.self.view_is)
    (Sets-taken _ _ (queue_at (queues_in c.close_at.new.slab.slots)) c.args.name.now
    (without_number c.args.number) (taken_number c.args.number) (λ q. refl)
    (Sets-changed c.self.inside.slab c.self.inside.keys c.self.invariant.found c.in-Some.key c.index_mut.result.now
    c.index_mut.ensures.value
    c.remove_number.new.self c.args.name.now (without_number c.args.number)
    (ap (λ (d : Destination). d.name) same ∙ found.2)
    c.remove_number.ensures)
    c.close_at.ensures.closed)

pub returns-in-None : goal.returns-in-None
returns-in-None c =
    rw (← c.self.view_is) (Sets-none_taken c.self.inside.slab c.args.name.now (taken_number c.args.number)
    c.in-None.ensures.absent)
