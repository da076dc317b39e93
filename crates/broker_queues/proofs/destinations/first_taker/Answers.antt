use Rattle.std.proofs.Common.{sym, ◌∙◌, arith}
use Rattle.broker_queues.specs.Parts.Dealings.{takes_more}
use Rattle.broker_queues.proofs.Searching.{next_from, walked_to, walked_past, walked_on, walked_off}
use Rattle.broker_queues.proofs.destinations.first_taker.Goals as goal

pub returns-then-is_free_at : goal.returns-then-is_free_at
returns-then-is_free_at c =
    walked_to (takes_more c.args.subscribers.now c.args.given c.args.name.now) c.args.queue.now.subscribers
    c.args.queue.now.taker_from
    c.loop-place.from c.loop-place.invariant c.args.last c.in-Some.place c.in-Some.ensures.least
    (sym c.is_free_at.ensures ∙ c.if-is_free_at.true)

pub returns-then-place-last : goal.returns-then-place-last
returns-then-place-last c =
    walked_past (takes_more c.args.subscribers.now c.args.given c.args.name.now) c.args.queue.now.subscribers
    c.args.queue.now.taker_from
    c.loop-place.from c.loop-place.invariant c.args.last c.in-Some.place c.in-Some.ensures.least
    (sym c.is_free_at.ensures ∙ c.if-is_free_at.false)
    (omega arith)

pub loop-place-smaller : goal.loop-place-smaller
loop-place-smaller c =
    omega (arith, next_from c.loop-place.from c.args.queue.now.subscribers c.in-Some.place c.in-Some.ensures.found)

pub loop-place-preserved : goal.loop-place-preserved
loop-place-preserved c =
    walked_on (takes_more c.args.subscribers.now c.args.given c.args.name.now) c.args.queue.now.subscribers
    c.args.queue.now.taker_from
    c.loop-place.from c.loop-place.invariant c.in-Some.place c.in-Some.ensures.least
    (sym c.is_free_at.ensures ∙ c.if-is_free_at.false)

pub returns : goal.returns
returns c =
    walked_off (takes_more c.args.subscribers.now c.args.given c.args.name.now) c.args.queue.now.subscribers
    c.args.queue.now.taker_from
    c.loop-place.from c.loop-place.invariant c.args.last c.in_default.ensures.found
