use Rattle.broker_queues.specs.Parts.Held.{holding_of}
use Rattle.broker_queues.proofs.Alone.{alone_none_gone, responded_alone}
use Rattle.broker_queues.proofs.parts.Parts.answer_whole.Goals as goal

pub returns-in-Some-clause-step : goal.returns-in-Some-clause-step
returns-in-Some-clause-step c accepted is =
    responded_alone (holding_of c.args.self.now) (holding_of c.answer_alone.new.self) (holding_of c.sweep_rest.new.self)
    is c.args.session c.args.ack c.args.again c.in-Some.held.0 c.in-Some.held.1 c.in-Some.ensures.0 c.in-Some.ensures.1
    c.answer_alone.ensures accepted c.sweep_rest.ensures.sweeps

pub returns-in-Some-clause-taken : goal.returns-in-Some-clause-taken
returns-in-Some-clause-taken c is none =
    alone_none_gone (holding_of c.args.self.now) (holding_of c.answer_alone.new.self) (holding_of c.sweep_rest.new.self)
    is c.args.session c.args.ack c.args.again c.in-Some.held.0 c.in-Some.held.1 c.in-Some.ensures.0 c.in-Some.ensures.1
    c.answer_alone.ensures c.sweep_rest.ensures.rest none
