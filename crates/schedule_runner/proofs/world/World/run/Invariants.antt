use Rattle.schedule_runner.proofs.Advancing.{SoFar}
use Rattle.schedule_runner.proofs.world.World.run.Given as goal

-- the events before this one were made
abbrev pub invariant-loop-event : goal.invariant-loop-event
invariant-loop-event g l =
    SoFar g.KO.Keep.seen g.KS.Keep.seen g.KA.Keep.seen l.events l.event-index l.initial.outcomes.items
    l.outcomes.items
    l.initial.self l.self
