use Rattle.std.proofs.Common.{refl}
use Rattle.laws_broker.proofs.calls.taken.Goals as goal

pub returns : goal.returns
returns g c = (c.args.count, c.requires, refl, c.taken.ensures)
