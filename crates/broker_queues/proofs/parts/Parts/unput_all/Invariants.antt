use Rattle.std.proofs.Common.{◌≡◌, List}
use Rattle.broker_queues.specs.declared.transactions.Logged.{Logged}
use Rattle.broker_queues.specs.Parts.Begun.{IsBegun}
use Rattle.broker_queues.specs.Parts.Held.{holding_of}
use Rattle.broker_queues.specs.Parts.Whole.{Holding}
use Rattle.broker_queues.proofs.parts.Parts.unput_all.Given as goal

abbrev pub invariant-loop-self : goal.invariant-loop-self
invariant-loop-self l =
    (start : Holding) (log : List Logged) → IsBegun start log (holding_of l.initial.self) → start.last ≡ l.last
    → IsBegun start log (holding_of l.self)

abbrev pub decreases-loop-self : goal.decreases-loop-self
decreases-loop-self l = l.self.last
