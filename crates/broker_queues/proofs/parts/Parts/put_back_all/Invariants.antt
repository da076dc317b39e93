use Rattle.std.proofs.Common.{◌≡◌, vec_len}
use Rattle.broker_queues.specs.Parts.Begun.{IsBegun}
use Rattle.broker_queues.specs.Parts.Held.{holding_of}
use Rattle.broker_queues.specs.Parts.Whole.{Holding}
use Rattle.broker_queues.proofs.parts.Parts.put_back_all.Given as goal

abbrev pub invariant-loop-logged : goal.invariant-loop-logged
invariant-loop-logged l = (start : Holding) → IsBegun start l.initial.log.items (holding_of l.initial.self)
    → l.initial.self.last ≡ start.last → IsBegun start l.log.items (holding_of l.self) × (l.self.last ≡ start.last)

abbrev pub decreases-loop-logged : goal.decreases-loop-logged
decreases-loop-logged l = vec_len l.log
