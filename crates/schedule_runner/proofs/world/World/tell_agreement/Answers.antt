use Rattle.schedule_runner.proofs.Asking.{passes_agreement}
use Rattle.schedule_runner.proofs.world.World.tell_agreement.Goals as goal

pub returns : goal.returns
returns g c = passes_agreement g.KO.Keep.seen g.KS.Keep.seen g.KA.Keep.seen g.met.KO.Keep.sound g.met.KS.Keep.sound
    g.met.KA.Keep.sound
    c.agreement.result c.agreement_told.result c.args.self.now c.agreement.new.self c.agreement_told.ensures
    c.agreement.ensures.passes
