use Rattle.std.proofs.Common.{◌-◌, ◌^◌}
use Rattle.broker_queues.specs.Parts.Dealings.{opens}
use Rattle.broker_queues.proofs.Searching.{Walked}
use Rattle.broker_queues.proofs.destinations.first_ready.Given as goal

abbrev pub invariant-loop-place : goal.invariant-loop-place
invariant-loop-place l = Walked (opens l.messages l.name) l.queue.numbers l.queue.ready_from l.from

abbrev pub decreases-loop-place : goal.decreases-loop-place
decreases-loop-place l = 2 ^ 64 - l.from
