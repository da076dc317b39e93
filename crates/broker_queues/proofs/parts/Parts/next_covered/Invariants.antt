use Rattle.std.proofs.Common.{◌≤◌, ◌-◌, length}
use Rattle.broker_queues.specs.Parts.Held.{TurnsPast, holding_of}
use Rattle.broker_queues.proofs.parts.Parts.next_covered.Given as goal

abbrev pub invariant-loop-index : goal.invariant-loop-index
invariant-loop-index l = record {
  behind : l.from ≤ l.index;
  passes : TurnsPast (holding_of l.self) l.age l.from l.answered l.index;
}

abbrev pub decreases-loop-index : goal.decreases-loop-index
decreases-loop-index l = length l.entries - l.index
