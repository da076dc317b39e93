use Rattle.schedule_runner.specs.Passing.{PassesAll}
use Rattle.schedule_runner.specs.Rounds.{takes}
use Rattle.schedule_runner.proofs.world.World.pump_connection.Given as goal

-- so many frames were taken
abbrev pub invariant-loop-taken : goal.invariant-loop-taken
invariant-loop-taken g l =
    PassesAll g.KO.Keep.seen g.KS.Keep.seen g.KA.Keep.seen (takes l.taken l.fn.name) l.initial.self l.self
