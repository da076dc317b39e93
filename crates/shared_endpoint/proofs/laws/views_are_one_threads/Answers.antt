use Rattle.shared_endpoint.proofs.Telling.{views}
use Rattle.shared_endpoint.proofs.laws.views_are_one_threads.Goals as goal

pub returns : goal.returns
returns g c = views g.K.Keep.seen g.H.Handler.service g.met.K.Keep.sound
