use Rattle.broker_queues.proofs.queues.Queues.nack.Goals as goal

pub invariant_of-self : goal.invariant_of-self
invariant_of-self g c = record {
  sound = (c.answer_whole.ensures.step c.self.inside.accepted.items c.self.invariant.sound).0;
  none_gone = c.answer_whole.ensures.taken c.self.invariant.sound c.self.invariant.none_gone;
}

pub returns : goal.returns
returns g c =
    rw (← c.self.view_is) ((c.answer_whole.ensures.step c.self.inside.accepted.items c.self.invariant.sound).1)
