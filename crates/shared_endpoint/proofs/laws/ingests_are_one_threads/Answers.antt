use Rattle.shared_endpoint.proofs.Telling.{ingests}
use Rattle.shared_endpoint.proofs.laws.ingests_are_one_threads.Goals as goal

pub returns : goal.returns
returns g c = ingests g.K.Keep.seen g.H.Handler.service g.met.K.Keep.sound
