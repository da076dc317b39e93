use Rattle.std.proofs.Common.{drop}
use Rattle.broker_queues.specs.Parts.Begun.{AreHeld, GoneAreNoted}
use Rattle.broker_queues.specs.Parts.Held.{holding_of}
use Rattle.broker_queues.specs.Parts.Storing.{Sweeps}
use Rattle.broker_queues.specs.Parts.Whole.{IsSound}
use Rattle.broker_queues.proofs.Swept.{AreLeft}
use Rattle.broker_queues.proofs.parts.Parts.sweep_all.Given as goal

abbrev pub invariant-loop-logged : goal.invariant-loop-logged
invariant-loop-logged l = record {
  sweeps : Sweeps (holding_of l.initial.self) (holding_of l.self);
  left : IsSound (holding_of l.initial.self) → AreHeld l.initial.self.subscribers l.log
      → GoneAreNoted l.initial.self.messages l.log
      → AreLeft (holding_of l.self) (drop l.logged-index l.log);
}
