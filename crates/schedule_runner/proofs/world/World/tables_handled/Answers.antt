use Rattle.std.proofs.Common.{ℕ, Ok, Err, refl}
use Rattle.schedule_runner.specs.declared.looking.Mark.TheVariants.{Handled}
use Rattle.schedule_runner.specs.declared.looking.PairTables.{PairTables}
use Rattle.schedule_runner.specs.Shows.{Returns}
use Rattle.schedule_runner.proofs.Reading.{passes_next, passes_fault, passes_returned}
use Rattle.schedule_runner.proofs.world.World.tables_handled.Goals as goal

pub returns-in-Ok : goal.returns-in-Ok
returns-in-Ok g c =
    let all : ℕ → PairTables = λ handled. record { sent = c.args.sent; settled = c.args.settled; handled = handled } in
    passes_next g.KO.Keep.seen g.KS.Keep.seen g.KA.Keep.seen c.kind.result c.args.pair.now.to.kind c.kind.ensures.kind
    Handled c.args.pair.now
    (λ (handled : ℕ). Returns (all handled))
    c.mark.result (Ok (all c.in-Ok.handled)) c.in-Ok.handled c.args.self.now c.mark.new.self c.mark.new.self c.in-Ok.is
    c.mark.ensures
    (passes_returned g.KO.Keep.seen g.KS.Keep.seen g.KA.Keep.seen (all c.in-Ok.handled) c.mark.new.self)

pub returns-in-Err : goal.returns-in-Err
returns-in-Err g c =
    let all : ℕ → PairTables = λ handled. record { sent = c.args.sent; settled = c.args.settled; handled = handled } in
    passes_fault g.KO.Keep.seen g.KS.Keep.seen g.KA.Keep.seen c.kind.result c.args.pair.now.to.kind c.kind.ensures.kind
    Handled c.args.pair.now
    (λ (handled : ℕ). Returns (all handled))
    c.mark.result (Err c.in-Err.told) c.in-Err.told c.args.self.now c.mark.new.self c.in-Err.is refl c.mark.ensures
