use Rattle.shared_endpoint.proofs.Telling.{for_good}
use Rattle.shared_endpoint.proofs.laws.failures_are_for_good.Goals as goal

pub returns : goal.returns
returns g c = for_good g.K.Keep.seen g.H.Handler.service g.met.K.Keep.sound
