use Rattle.std.proofs.Common.{refl}
use Rattle.schedule_runner.proofs.Reading.{passes_pair}
use Rattle.schedule_runner.proofs.world.World.pair.Goals as goal

pub returns-in-Ok : goal.returns-in-Ok
returns-in-Ok g c =
    passes_pair g.KO.Keep.seen g.KS.Keep.seen g.KA.Keep.seen c.args.pair.now c.tables.result c.show_pair.result
    c.args.self.now c.tables.new.self (rw c.in-Ok.is c.show_pair.ensures) c.tables.ensures

pub returns-in-Err : goal.returns-in-Err
returns-in-Err g c =
    passes_pair g.KO.Keep.seen g.KS.Keep.seen g.KA.Keep.seen c.args.pair.now c.tables.result c.in-Err.told
    c.args.self.now c.tables.new.self (rw c.in-Err.is refl) c.tables.ensures
