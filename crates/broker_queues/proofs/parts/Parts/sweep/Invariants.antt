use Rattle.std.proofs.Common.{◌≡◌, length, Some}
use Rattle.broker_index.specs.Index.{Subscriber}
use Rattle.broker_queues.specs.Parts.Held.{entries_of, holding_of}
use Rattle.broker_queues.specs.Parts.Facts.{subscriber_at}
use Rattle.broker_queues.specs.Parts.Storing.{Clearing, SweptOne, Tidies}
use Rattle.broker_queues.specs.Parts.Whole.{IsSound}
use Rattle.broker_queues.proofs.parts.Parts.sweep.Given as goal

abbrev pub invariant-loop-entry : goal.invariant-loop-entry
invariant-loop-entry l = record {
  tidies : IsSound (holding_of l.initial.self) → Tidies (holding_of l.initial.self) (holding_of l.self);
  clearing : (s : Subscriber) → IsSound (holding_of l.initial.self)
      → subscriber_at l.age l.initial.self.subscribers ≡ Some s
      → Clearing l.age s (holding_of l.self);
  swept : IsSound (holding_of l.initial.self) → SweptOne (holding_of l.initial.self) l.age (holding_of l.self);
}

abbrev pub decreases-loop-entry : goal.decreases-loop-entry
decreases-loop-entry l = length (entries_of (subscriber_at l.age l.self.subscribers))
