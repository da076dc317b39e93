use Rattle.shared_endpoint.proofs.Telling.{journals}
use Rattle.shared_endpoint.proofs.laws.journals_are_one_threads.Goals as goal

pub returns : goal.returns
returns g c = journals g.K.Keep.seen g.H.Handler.service g.met.K.Keep.sound
