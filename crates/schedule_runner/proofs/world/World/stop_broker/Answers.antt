use Rattle.std.proofs.Common.{refl}
use Rattle.schedule_text.specs.declared.outcome.Outcome.TheVariants.{Stopped, Refused}
use Rattle.schedule_runner.specs.declared.world.World.{World}
use Rattle.schedule_runner.specs.Steps.{BeginsAnew}
use Rattle.schedule_runner.proofs.Lifting.{lift_anew}
use Rattle.schedule_runner.proofs.world.World.stop_broker.Goals as goal

pub returns-in-Ok : goal.returns-in-Ok
returns-in-Ok g c =
    let old = c.args.self.now in
    let new : World _ _ _ = record {
      purchasing = c.disconnect.new.self;
      warehouse = c.disconnect-2.new.self;
      billing = c.disconnect-3.new.self;
      mail = c.restart.new.self;
      alloc = old.alloc;
    } in
    let did : BeginsAnew Stopped old new = (
      c.disconnect.new.mail,
      c.disconnect-2.new.mail,
      c.disconnect-3.new.mail,
      c.disconnect.ensures.cuts,
      c.disconnect-2.ensures.cuts,
      c.disconnect-3.ensures.cuts,
      c.in-Ok.ensures.ok,
    ) in
    lift_anew g.KO.Keep.seen g.KS.Keep.seen g.KA.Keep.seen Stopped old new did

pub returns-in-Err : goal.returns-in-Err
returns-in-Err g c =
    let old = c.args.self.now in
    let new : World _ _ _ = record {
      purchasing = c.disconnect.new.self;
      warehouse = c.disconnect-2.new.self;
      billing = c.disconnect-3.new.self;
      mail = c.restart.new.self;
      alloc = old.alloc;
    } in
    let did : BeginsAnew (Refused 34) old new = (
      c.disconnect.new.mail,
      c.disconnect-2.new.mail,
      c.disconnect-3.new.mail,
      c.disconnect.ensures.cuts,
      c.disconnect-2.ensures.cuts,
      c.disconnect-3.ensures.cuts,
      (refl, c.in-Err.ensures.err),
    ) in
    lift_anew g.KO.Keep.seen g.KS.Keep.seen g.KA.Keep.seen (Refused 34) old new did
