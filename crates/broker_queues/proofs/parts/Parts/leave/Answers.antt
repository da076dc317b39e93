use Rattle.broker_queues.specs.Parts.Held.{holding_of}
use Rattle.broker_queues.proofs.Leaving.{releases}
use Rattle.broker_queues.proofs.parts.Parts.leave.Goals as goal

pub returns : goal.returns
returns c s is sits =
    releases (holding_of c.args.self.now) (holding_of c.answer.new.self) (holding_of c.detach.new.self) is c.args.age s
    sits
    (c.answer.ensures s is sits) c.detach.ensures
