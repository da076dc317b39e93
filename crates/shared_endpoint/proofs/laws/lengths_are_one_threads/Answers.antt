use Rattle.shared_endpoint.proofs.Telling.{lengths}
use Rattle.shared_endpoint.proofs.laws.lengths_are_one_threads.Goals as goal

pub returns : goal.returns
returns g c = lengths g.K.Keep.seen g.H.Handler.service g.met.K.Keep.sound
