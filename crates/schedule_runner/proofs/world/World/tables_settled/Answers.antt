use Rattle.std.proofs.Common.{ℕ, Err, refl}
use Rattle.schedule_runner.specs.declared.looking.Mark.TheVariants.{Settled}
use Rattle.schedule_runner.specs.Shows.{ReadsHandled}
use Rattle.schedule_runner.proofs.Reading.{passes_next, passes_fault}
use Rattle.schedule_runner.proofs.world.World.tables_settled.Goals as goal

pub returns-in-Ok : goal.returns-in-Ok
returns-in-Ok g c =
    passes_next g.KO.Keep.seen g.KS.Keep.seen g.KA.Keep.seen c.kind.result c.args.pair.now.from.kind c.kind.ensures.kind
    Settled c.args.pair.now
    (λ (settled : ℕ). ReadsHandled g.KO.Keep.seen g.KS.Keep.seen g.KA.Keep.seen c.args.pair.now c.args.sent settled)
    c.mark.result c.tables_handled.result c.in-Ok.settled c.args.self.now c.mark.new.self c.tables_handled.new.self
    c.in-Ok.is c.mark.ensures
    c.tables_handled.ensures

pub returns-in-Err : goal.returns-in-Err
returns-in-Err g c = passes_fault g.KO.Keep.seen g.KS.Keep.seen g.KA.Keep.seen c.kind.result c.args.pair.now.from.kind
    c.kind.ensures.kind Settled c.args.pair.now
    (λ (settled : ℕ). ReadsHandled g.KO.Keep.seen g.KS.Keep.seen g.KA.Keep.seen c.args.pair.now c.args.sent settled)
    c.mark.result (Err c.in-Err.told) c.in-Err.told c.args.self.now c.mark.new.self c.in-Err.is refl c.mark.ensures
