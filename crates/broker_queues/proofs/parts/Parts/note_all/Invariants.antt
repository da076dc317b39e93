use Rattle.std.proofs.Common.{◌≡◌, Some, take}
use Rattle.broker_index.specs.Index.{Subscriber}
use Rattle.broker_queues.specs.Parts.Begun.{Noted}
use Rattle.broker_queues.specs.Parts.Held.{holding_of}
use Rattle.broker_queues.specs.Parts.Facts.{subscriber_at}
use Rattle.broker_queues.proofs.parts.Parts.note_all.Given as goal

abbrev pub invariant-loop-entry : goal.invariant-loop-entry
invariant-loop-entry l = (s : Subscriber) → subscriber_at l.place.number l.self.subscribers ≡ Some s
    → Noted (holding_of l.self) s l.answered (take l.entry-index s.entries) l.fn.log.items l.log.items
