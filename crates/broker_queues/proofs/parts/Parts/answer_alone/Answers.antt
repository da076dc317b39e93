use Rattle.broker_queues.specs.Parts.Held.{holding_of}
use Rattle.broker_queues.proofs.Alone.{answered_it}
use Rattle.broker_queues.proofs.parts.Parts.answer_alone.Goals as goal

pub returns-then-not-again : goal.returns-then-not-again
returns-then-not-again c = rw c.if-not-again.true c.settle.ensures

pub returns : goal.returns
returns c k s is found sits on =
    answered_it (holding_of c.args.self.now) (holding_of c.take_back.new.self) (holding_of c.purge.new.self) is
    c.args.place.now.number
    c.args.entry.now.number c.args.again k s c.forget.new.self found sits
    (c.take_back.ensures.change k s is found sits on) c.forget.ensures c.purge.ensures.sweeps c.purge.ensures.rest
    c.take_back.ensures.given
