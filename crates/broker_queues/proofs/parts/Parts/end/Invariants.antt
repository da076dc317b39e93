use Rattle.std.proofs.Common.{◌-◌}
use Rattle.broker_queues.specs.Parts.Held.{holding_of}
use Rattle.broker_queues.specs.Parts.Storing.{EndsSome}
use Rattle.broker_queues.specs.Parts.Whole.{IsSound}
use Rattle.broker_queues.proofs.parts.Parts.end.Given as goal

abbrev pub invariant-loop : goal.invariant-loop
invariant-loop l = IsSound (holding_of l.initial.self)
    → EndsSome (holding_of l.initial.self) l.session (l.len - l.counter) (holding_of l.self)
