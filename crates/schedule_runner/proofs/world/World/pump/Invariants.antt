use Rattle.schedule_runner.specs.Passing.{PassesAll}
use Rattle.schedule_runner.specs.Rounds.{all_rounds}
use Rattle.schedule_runner.proofs.world.World.pump.Given as goal

-- so many rounds were made
abbrev pub invariant-loop-done : goal.invariant-loop-done
invariant-loop-done g l =
    PassesAll g.KO.Keep.seen g.KS.Keep.seen g.KA.Keep.seen (all_rounds l.done) l.initial.self l.self
