use Rattle.std.proofs.Common.{sym, ◌∙◌, arith}
use Rattle.broker_queues.specs.Parts.Dealings.{opens}
use Rattle.broker_queues.proofs.Searching.{next_from, walked_to, walked_past, walked_on, walked_off}
use Rattle.broker_queues.proofs.destinations.first_ready.Goals as goal

pub returns-then-is_open_at : goal.returns-then-is_open_at
returns-then-is_open_at c =
    walked_to (opens c.args.messages.now c.args.name.now) c.args.queue.now.numbers c.args.queue.now.ready_from
    c.loop-place.from
    c.loop-place.invariant c.args.last c.in-Some.place c.in-Some.ensures.least
    (sym c.is_open_at.ensures ∙ c.if-is_open_at.true)

pub returns-then-place-last : goal.returns-then-place-last
returns-then-place-last c =
    walked_past (opens c.args.messages.now c.args.name.now) c.args.queue.now.numbers c.args.queue.now.ready_from
    c.loop-place.from
    c.loop-place.invariant c.args.last c.in-Some.place c.in-Some.ensures.least
    (sym c.is_open_at.ensures ∙ c.if-is_open_at.false)
    (omega arith)

pub loop-place-smaller : goal.loop-place-smaller
loop-place-smaller c =
    omega (arith, next_from c.loop-place.from c.args.queue.now.numbers c.in-Some.place c.in-Some.ensures.found)

pub loop-place-preserved : goal.loop-place-preserved
loop-place-preserved c =
    walked_on (opens c.args.messages.now c.args.name.now) c.args.queue.now.numbers c.args.queue.now.ready_from
    c.loop-place.from
    c.loop-place.invariant c.in-Some.place c.in-Some.ensures.least (sym c.is_open_at.ensures ∙ c.if-is_open_at.false)

pub returns : goal.returns
returns c =
    walked_off (opens c.args.messages.now c.args.name.now) c.args.queue.now.numbers c.args.queue.now.ready_from
    c.loop-place.from
    c.loop-place.invariant c.args.last c.in_default.ensures.found
