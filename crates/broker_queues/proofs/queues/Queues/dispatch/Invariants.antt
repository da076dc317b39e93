use Rattle.std.specs.Prelude.{count_by}
use Rattle.broker_book.specs.Books.{is_ready}
use Rattle.broker_book.specs.Steps.{Dealt}
use Rattle.broker_queues.specs.Parts.Held.{holding_of}
use Rattle.broker_queues.specs.Parts.Facts.{living_of}
use Rattle.broker_queues.specs.Parts.Storing.{IsTidy}
use Rattle.broker_queues.specs.Parts.Whole.{book_of}
use Rattle.broker_queues.proofs.queues.Queues.dispatch.Given as goal

abbrev pub invariant-loop-pick : goal.invariant-loop-pick
invariant-loop-pick g l = IsTidy (holding_of l.self-inside.parts)
    × Dealt g.S.Sink.takes (book_of (holding_of l.initial.self-inside.parts) l.initial.self-inside.accepted.items)
    l.initial.sink
    (book_of (holding_of l.self-inside.parts) l.self-inside.accepted.items) l.sink

abbrev pub decreases-loop-pick : goal.decreases-loop-pick
decreases-loop-pick g l = count_by is_ready (living_of l.self-inside.parts.messages)
