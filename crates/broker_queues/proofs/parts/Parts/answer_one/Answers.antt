use Rattle.std.proofs.Common.{◌∙◌, get_or, refl, sym}
use Rattle.broker_index.specs.declared.places.Entry.{Entry}
use Rattle.broker_queues.specs.Parts.Held.{holding_of}
use Rattle.broker_queues.proofs.Turning.{next_hit, next_miss}
use Rattle.broker_queues.proofs.parts.Parts.answer_one.Goals as goal

-- what a read past the end gives
nothing : Entry
nothing = record { ack = 0; number = 0; key = 0 }

pub returns-then-is_covered : goal.returns-then-is_covered
unfolding nothing
returns-then-is_covered c h s is short t =
    next_hit h (holding_of c.args.self.now) is c.args.age s c.args.again c.args.answered c.args.index
    c.in-Some.subscriber.now
    c.entries-entries.result.now c.subscription.result.now (get_or c.entries-entries.result.now c.args.index nothing)
    nothing
    c.in-Some.ensures c.entries-entries.ensures c.subscription.ensures refl short t (holding_of c.take_back.new.self)
    (sym c.is_covered.ensures ∙ c.if-is_covered.true) c.take_back.ensures.change c.take_back.ensures.given

pub returns-else-is_covered : goal.returns-else-is_covered
unfolding nothing
returns-else-is_covered c h s is short t =
    next_miss h (holding_of c.args.self.now) is c.args.age s c.args.again c.args.answered c.args.index
    c.in-Some.subscriber.now
    c.entries-entries.result.now c.subscription.result.now (get_or c.entries-entries.result.now c.args.index nothing)
    nothing
    c.in-Some.ensures c.entries-entries.ensures c.subscription.ensures refl short t
    (sym c.is_covered.ensures ∙ c.if-is_covered.false)
