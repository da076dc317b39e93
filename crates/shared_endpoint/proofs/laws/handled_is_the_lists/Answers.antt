use Rattle.shared_endpoint.proofs.Telling.{handled}
use Rattle.shared_endpoint.proofs.laws.handled_is_the_lists.Goals as goal

pub returns : goal.returns
returns g c = handled g.K.Keep.seen g.H.Handler.service g.met.K.Keep.sound
