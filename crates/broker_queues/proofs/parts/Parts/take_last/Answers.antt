use Rattle.broker_queues.specs.Parts.Held.{holding_of}
use Rattle.broker_queues.proofs.Unputting.{none_taken, one_taken}
use Rattle.broker_queues.proofs.parts.Parts.take_last.Goals as goal

pub returns-then-not-let_go : goal.returns-then-not-let_go
returns-then-not-let_go c start log b later =
    none_taken start (holding_of c.args.self.now) (holding_of c.let_go.new.self) log b later c.if-not-let_go.ensures

pub returns : goal.returns
returns c start log b later =
    one_taken start (holding_of c.args.self.now) (holding_of c.let_go.new.self) (holding_of c.purge.new.self) log b
    later
    c.if-not-let_go.ensures c.purge.ensures.sweeps c.purge.ensures.taken
