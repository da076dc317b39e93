use Rattle.shared_endpoint.proofs.Telling.{commits}
use Rattle.shared_endpoint.proofs.laws.commits_are_one_threads.Goals as goal

pub returns : goal.returns
returns g c = commits g.K.Keep.seen g.H.Handler.service g.met.K.Keep.sound
