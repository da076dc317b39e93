use Rattle.std.proofs.Common.{refl}
use Rattle.broker_queues.specs.Parts.Held.{holding_of}
use Rattle.broker_queues.proofs.Choosing.{roused}
use Rattle.broker_queues.proofs.parts.Parts.rouse.Goals as goal

pub returns-in_ok-names-clause-rests : goal.returns-in_ok-names-clause-rests
returns-in_ok-names-clause-rests c is =
    roused (holding_of c.args.self.now) is c.args.self.now.destinations c.in_ok-names.names.items refl
    c.in_ok-names.ensures
