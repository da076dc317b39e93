use Rattle.std.proofs.Common.{sym, refl}
use Rattle.broker_queues.specs.Parts.Held.{holding_of}
use Rattle.broker_queues.proofs.Alone.{alone_none_gone, responded_alone}
use Rattle.broker_queues.proofs.Clearing.{none_gone}
use Rattle.broker_queues.proofs.Responding.{refused}
use Rattle.broker_queues.proofs.Sweeping.{answered}
use Rattle.broker_queues.proofs.parts.Parts.answer_any.Goals as goal

pub returns-clause-step : goal.returns-clause-step
returns-clause-step c accepted is =
    answered (holding_of c.args.self.now) (holding_of c.answer.new.self) (holding_of c.sweep.new.self) accepted
    c.args.session c.args.ack
    c.args.again c.in-Some.place is (sym c.in-Some.ensures) c.answer.ensures c.sweep.ensures.sweeps

pub returns-in-Some-sole_covered-clause-step : goal.returns-in-Some-sole_covered-clause-step
returns-in-Some-sole_covered-clause-step c accepted is =
    responded_alone (holding_of c.args.self.now) (holding_of c.answer_alone.new.self) (holding_of c.sweep_rest.new.self)
    is c.args.session c.args.ack c.args.again c.in-Some.place c.in-Some-sole_covered.entry (sym c.in-Some.ensures)
    (sym c.in-Some-sole_covered.ensures) c.answer_alone.ensures accepted c.sweep_rest.ensures.sweeps

pub returns-in-Some-sole_covered-clause-taken : goal.returns-in-Some-sole_covered-clause-taken
returns-in-Some-sole_covered-clause-taken c is none =
    alone_none_gone (holding_of c.args.self.now) (holding_of c.answer_alone.new.self) (holding_of c.sweep_rest.new.self)
    is c.args.session c.args.ack c.args.again c.in-Some.place c.in-Some-sole_covered.entry (sym c.in-Some.ensures)
    (sym c.in-Some-sole_covered.ensures) c.answer_alone.ensures c.sweep_rest.ensures.rest none

pub returns-in_default-clause-step : goal.returns-in_default-clause-step
returns-in_default-clause-step c accepted is = (
  is,
  (
    refused (holding_of c.args.self.now) accepted c.args.session c.args.ack c.args.again is
        (sym c.in_default.ensures),
    refl,
  ),
)

pub returns-clause-taken : goal.returns-clause-taken
returns-clause-taken c is none =
    none_gone (holding_of c.args.self.now) (holding_of c.answer.new.self) (holding_of c.sweep.new.self) is
    c.args.session c.args.ack
    c.args.again c.in-Some.place (sym c.in-Some.ensures) c.answer.ensures c.sweep.ensures.clears c.sweep.ensures.rest
    none
