use Rattle.schedule_runner.specs.Shows.{RowOf}
use Rattle.schedule_runner.proofs.Reading.{passes_told}
use Rattle.schedule_runner.proofs.world.World.show.Goals as goal

pub returns : goal.returns
returns g c = passes_told g.KO.Keep.seen g.KS.Keep.seen g.KA.Keep.seen
    (RowOf g.KO.Keep.seen g.KS.Keep.seen g.KA.Keep.seen c.args.entity.now.kind c.args.entity.now)
    c.row.result c.shown.result c.args.self.now c.row.new.self c.shown.ensures c.row.ensures
