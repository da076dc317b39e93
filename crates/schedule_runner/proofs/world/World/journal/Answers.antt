use Rattle.schedule_runner.specs.declared.looking.Listing.TheVariants.{Journal}
use Rattle.schedule_runner.specs.Shows.{ListOf}
use Rattle.schedule_runner.proofs.Reading.{passes_told}
use Rattle.schedule_runner.proofs.world.World.journal.Goals as goal

pub returns : goal.returns
returns g c = passes_told g.KO.Keep.seen g.KS.Keep.seen g.KA.Keep.seen
    (ListOf g.KO.Keep.seen g.KS.Keep.seen g.KA.Keep.seen c.args.service Journal)
    c.list.result c.shown.result c.args.self.now c.list.new.self c.shown.ensures c.list.ensures
