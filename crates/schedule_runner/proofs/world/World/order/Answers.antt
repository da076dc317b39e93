use Rattle.schedule_service.specs.SiteEvents.{Commits}
use Rattle.schedule_runner.proofs.Lifting.{lift_purchasing}
use Rattle.schedule_runner.proofs.world.World.order.Goals as goal

pub returns : goal.returns
returns g c =
    lift_purchasing g.KO.Keep.seen g.KS.Keep.seen g.KA.Keep.seen c.args.self.now c.commit.new.mail g.met.KO.Keep.sound
    (Commits c.args.asked.now)
    c.commit.result c.commit.new.self c.commit.ensures.doubt c.commit.ensures.matches c.commit.ensures.comes
    c.commit.ensures.did
