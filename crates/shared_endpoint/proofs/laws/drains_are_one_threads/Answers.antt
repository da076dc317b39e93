use Rattle.shared_endpoint.proofs.Telling.{drains}
use Rattle.shared_endpoint.proofs.laws.drains_are_one_threads.Goals as goal

pub returns : goal.returns
returns g c = drains g.K.Keep.seen g.H.Handler.service g.met.K.Keep.sound
