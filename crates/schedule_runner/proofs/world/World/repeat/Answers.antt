use Rattle.std.proofs.Common.{refl, ap, subst}
use Rattle.schedule_mail.specs.Repeating.{Repeats}
use Rattle.schedule_text.specs.declared.outcome.Outcome.TheVariants.{Refused}
use Rattle.schedule_runner.proofs.Lifting.{lift_again}
use Rattle.schedule_runner.proofs.world.World.repeat.Goals as goal

pub returns-in-Ok-Some : goal.returns-in-Ok-Some
returns-in-Ok-Some g c =
    let repeats =
    subst (λ place. Repeats place c.args.self.now.mail c.repeat.new.self c.repeat.result) c.get.ensures.value
    c.repeat.ensures.repeats in
    lift_again g.KO.Keep.seen g.KS.Keep.seen g.KA.Keep.seen c.args.place _ c.args.self.now c.repeat.new.self
    (c.repeat.result, repeats, rw c.in-Ok-Some.is (rw c.in-Ok-Some.field-0-is refl))

pub returns-in-Ok-None : goal.returns-in-Ok-None
returns-in-Ok-None g c =
    let repeats =
    subst (λ place. Repeats place c.args.self.now.mail c.repeat.new.self c.repeat.result) c.get.ensures.value
    c.repeat.ensures.repeats in
    lift_again g.KO.Keep.seen g.KS.Keep.seen g.KA.Keep.seen c.args.place _ c.args.self.now c.repeat.new.self
    (c.repeat.result, repeats, rw c.in-Ok-None.is (rw c.in-Ok-None.field-0-is refl))

pub returns-in-Err : goal.returns-in-Err
returns-in-Err g c =
    let repeats =
    subst (λ place. Repeats place c.args.self.now.mail c.repeat.new.self c.repeat.result) c.get.ensures.value
    c.repeat.ensures.repeats in
    lift_again g.KO.Keep.seen g.KS.Keep.seen g.KA.Keep.seen c.args.place _ c.args.self.now c.repeat.new.self
    (c.repeat.result, repeats, rw c.in-Err.is (ap Refused c.number.ensures))
