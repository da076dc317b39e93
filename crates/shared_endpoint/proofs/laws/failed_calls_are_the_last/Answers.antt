use Rattle.shared_endpoint.proofs.Failing.{failed_calls}
use Rattle.shared_endpoint.proofs.laws.failed_calls_are_the_last.Goals as goal

pub returns : goal.returns
returns g c = failed_calls g.K.Keep.seen g.H.Handler.service g.met.K.Keep.sound
