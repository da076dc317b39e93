use Rattle.broker_core.proofs.broker.Broker.open.Goals as goal

pub returns : goal.returns
returns g c = rw (← c.self.view_is) (c.open.ensures c.self.inside.queues)
