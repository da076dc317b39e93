use Rattle.broker_core.proofs.broker.Broker.take_fresh.Goals as goal

pub returns : goal.returns
returns g c = rw (← c.self.view_is) (c.take_fresh.ensures c.self.inside.queues)
