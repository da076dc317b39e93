use Rattle.broker_queues.proofs.queues.Queues.end.Goals as goal

pub invariant_of-self : goal.invariant_of-self
invariant_of-self g c =
    let done = c.end.ensures c.self.invariant.sound in
    record { sound = done.0; none_gone = done.2 c.self.invariant.none_gone }

pub returns : goal.returns
returns g c = rw (← c.self.view_is) ((c.end.ensures c.self.invariant.sound).1 c.self.inside.accepted.items)
