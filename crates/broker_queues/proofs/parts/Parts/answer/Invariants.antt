use Rattle.std.proofs.Common.{◌≡◌, ◌-◌, Some, take}
use Rattle.broker_index.specs.Index.{Subscriber}
use Rattle.broker_queues.specs.Parts.Fates.{back, counts_in}
use Rattle.broker_queues.specs.Parts.Held.{Turns, holding_of}
use Rattle.broker_queues.specs.Parts.Facts.{subscriber_at}
use Rattle.broker_queues.specs.Parts.Whole.{IsSound}
use Rattle.broker_queues.proofs.parts.Parts.answer.Given as goal

abbrev pub invariant-loop-index : goal.invariant-loop-index
invariant-loop-index l =
    (s : Subscriber) → IsSound (holding_of l.initial.self) → subscriber_at l.age l.initial.self.subscribers ≡ Some s
    → Turns (holding_of l.initial.self) l.age s (back l.again) (counts_in s.subscription l.answered)
    (take l.index s.entries)
    (holding_of l.self)

abbrev pub decreases-loop-index : goal.decreases-loop-index
decreases-loop-index l = l.len - l.index
