use Rattle.broker_queues.specs.Parts.Held.{holding_of}
use Rattle.broker_queues.proofs.Asking.{asks_count}
use Rattle.broker_queues.proofs.queues.Queues.count_of.Goals as goal

pub returns : goal.returns
returns g c =
    rw (c.get.ensures, ← c.self.view_is) (asks_count (holding_of c.self.inside.parts) c.self.invariant.sound
    c.args.session)
