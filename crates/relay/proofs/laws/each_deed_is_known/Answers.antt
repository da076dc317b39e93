use Rattle.relay.proofs.Knowing.{deed_known}
use Rattle.relay.proofs.laws.each_deed_is_known.Goals as goal

pub returns : goal.returns
returns g c r x y deed known did = deed_known g.H.Handler.service r x y deed known did
