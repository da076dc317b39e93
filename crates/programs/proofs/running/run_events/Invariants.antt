use Rattle.programs.proofs.Going.{ToldSoFar}
use Rattle.programs.proofs.running.run_events.Given as goal

-- the events before this one were made and told
abbrev pub invariant-loop-event : goal.invariant-loop-event
invariant-loop-event g l =
    ToldSoFar g.O.Keep.seen g.S.Keep.seen g.A.Keep.seen l.event-items l.event-index l.initial.world l.world
    (g.W.Write.contents l.fn.out) (g.W.Write.contents l.out)
