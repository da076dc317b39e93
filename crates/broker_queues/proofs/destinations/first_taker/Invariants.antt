use Rattle.std.proofs.Common.{◌-◌, ◌^◌}
use Rattle.broker_queues.specs.Parts.Dealings.{takes_more}
use Rattle.broker_queues.proofs.Searching.{Walked}
use Rattle.broker_queues.proofs.destinations.first_taker.Given as goal

abbrev pub invariant-loop-place : goal.invariant-loop-place
invariant-loop-place l = Walked (takes_more l.subscribers l.given l.name) l.queue.subscribers l.queue.taker_from l.from

abbrev pub decreases-loop-place : goal.decreases-loop-place
decreases-loop-place l = 2 ^ 64 - l.from
