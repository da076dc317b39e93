use Rattle.shared_endpoint.proofs.Telling.{settles}
use Rattle.shared_endpoint.proofs.laws.settles_are_one_threads.Goals as goal

pub returns : goal.returns
returns g c = settles g.K.Keep.seen g.H.Handler.service g.met.K.Keep.sound
