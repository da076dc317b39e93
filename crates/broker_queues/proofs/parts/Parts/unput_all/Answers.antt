use Rattle.std.proofs.Common.{arith}
use Rattle.broker_queues.specs.Parts.Begun.{IsBegun}
use Rattle.broker_queues.specs.Parts.Held.{holding_of}
use Rattle.broker_queues.proofs.parts.Parts.unput_all.Goals as goal

pub loop-self-init : goal.loop-self-init
loop-self-init c start log b is = b

pub loop-self-preserved : goal.loop-self-preserved
loop-self-preserved c start log b is =
    c.unput.ensures.begun start log (c.loop-self.invariant start log b is) (omega (arith, is, c.loop-self-test.true))

pub returns : goal.returns
returns c start log b is =
    let now : IsBegun start log (holding_of c.loop-self.self) = c.loop-self.invariant start log b is in
    (now, omega (arith, is, now.last, c.loop-self-test.false))
