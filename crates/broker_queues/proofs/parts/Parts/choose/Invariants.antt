use Rattle.std.proofs.Common.{◌≡◌, ◌-◌, length}
use Rattle.broker_queues.specs.Parts.Held.{holding_of}
use Rattle.broker_queues.specs.Parts.Whole.{IsSound}
use Rattle.broker_queues.proofs.Choosing.{Choosing}
use Rattle.broker_queues.proofs.parts.Parts.choose.Given as goal

abbrev pub invariant-loop-index : goal.invariant-loop-index
invariant-loop-index l = (l.self.active.all ≡ l.initial.self.active.all)
    × (IsSound (holding_of l.initial.self)
    → Choosing (holding_of l.initial.self) (holding_of l.self) l.index l.self.active.names.items l.best)

abbrev pub decreases-loop-index : goal.decreases-loop-index
decreases-loop-index l = length l.self.active.names.items - l.index
