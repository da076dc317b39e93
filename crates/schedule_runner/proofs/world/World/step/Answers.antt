use Rattle.std.proofs.Common.{[], ◌∷◌}
use Rattle.schedule_runner.specs.Deeds.{Step}
use Rattle.schedule_runner.specs.Paths.{IsPath, Makes}
use Rattle.schedule_runner.proofs.Composing.{goes_map}
use Rattle.schedule_runner.proofs.Stepping.{makes_passed, passes_made}
use Rattle.schedule_runner.proofs.Following.{path_one}
use Rattle.schedule_runner.proofs.world.World.step.Goals as goal

pub returns-clause-did : goal.returns-clause-did
returns-clause-did g c =
    makes_passed g.KO.Keep.seen g.KS.Keep.seen g.KA.Keep.seen c.args.event.now c.single_step.result c.args.self.now
    c.single_step.new.self c.single_step.ensures

pub returns-clause-goes : goal.returns-clause-goes
returns-clause-goes g c =
    let e = c.args.event.now in
    let o = c.single_step.result in
    let step = Step g.KO.Keep.seen g.KS.Keep.seen g.KA.Keep.seen in
    goes_map g.KO.Keep.seen g.KS.Keep.seen g.KA.Keep.seen (Makes step e o) (IsPath (Makes step) (e ∷ []) (o ∷ []))
    (path_one (Makes step) e o) c.args.self.now c.single_step.new.self c.single_step.ensures.goes

pub returns-clause-passes : goal.returns-clause-passes
returns-clause-passes g c =
    let made = passes_made g.KO.Keep.seen g.KS.Keep.seen g.KA.Keep.seen c.args.event.now c.single_step.result in
    made c.args.self.now c.single_step.new.self c.single_step.ensures
