use Rattle.std.proofs.Common.{◌≡◌, ◌+◌, subst, arith}
use Rattle.schedule_runner.specs.Passing.{PassesAll}
use Rattle.schedule_runner.specs.Rounds.{all_rounds}
use Rattle.schedule_runner.proofs.Stepping.{passes_nothing, rounds_more}
use Rattle.schedule_runner.proofs.world.World.pump.Goals as goal

pub loop-done-init : goal.loop-done-init
loop-done-init g c = passes_nothing g.KO.Keep.seen g.KS.Keep.seen g.KA.Keep.seen c.args.self.now

pub loop-done-preserved : goal.loop-done-preserved
loop-done-preserved g c =
    rounds_more g.KO.Keep.seen g.KS.Keep.seen g.KA.Keep.seen c.loop-done.done (c.loop-done.done + 1)
    c.args.self.now c.loop-done.self
    c.round.new.self (omega arith) c.loop-done.invariant c.round.ensures

pub returns : goal.returns
returns g c =
    let value = c.get-done-end.ensures.value in
    let all : c.loop-done.done ≡ c.args.rounds = omega (arith, value) in
    subst (λ n. PassesAll g.KO.Keep.seen g.KS.Keep.seen g.KA.Keep.seen (all_rounds n) c.args.self.now c.loop-done.self)
    all
    c.loop-done.invariant
