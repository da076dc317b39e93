use Rattle.std.proofs.Common.{◌-◌, ◌+◌, arith}
use Rattle.broker_queues.specs.Parts.Held.{holding_of}
use Rattle.broker_queues.proofs.Released.{ends_all, ends_more, ends_nothing}
use Rattle.broker_queues.proofs.parts.Parts.end.Goals as goal

pub loop-init : goal.loop-init
loop-init c is =
    ends_nothing (holding_of c.args.self.now) is c.args.session (c.subscribers_len-len.result - 0) (omega arith)

pub loop-preserved : goal.loop-preserved
loop-preserved c is =
    let before = c.loop.invariant is in
    ends_more (holding_of c.args.self.now) (holding_of c.loop.self) (holding_of c.end_first.new.self) c.args.session
    (c.subscribers_len-len.result - c.loop.counter) (c.subscribers_len-len.result - (c.loop.counter + 1)) before
    (c.end_first.ensures before.sound) (omega arith)

pub returns : goal.returns
returns c is =
    ends_all (holding_of c.args.self.now) (holding_of c.loop.self) c.args.session
    (c.subscribers_len-len.result - c.loop.counter)
    (c.loop.invariant is) (omega arith)
