use Rattle.shared_endpoint.proofs.Telling.{failures}
use Rattle.shared_endpoint.proofs.laws.failures_are_counted.Goals as goal

pub returns : goal.returns
returns g c = failures g.K.Keep.seen g.H.Handler.service g.met.K.Keep.sound
