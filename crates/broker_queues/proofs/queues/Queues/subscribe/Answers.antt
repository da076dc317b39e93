use Rattle.broker_queues.proofs.queues.Queues.subscribe.Goals as goal

pub returns-clause-ok : goal.returns-clause-ok
returns-clause-ok g c = rw (← c.self.view_is) (c.in_ok-subscribe.ensures.joins.1 c.self.inside.accepted.items)
