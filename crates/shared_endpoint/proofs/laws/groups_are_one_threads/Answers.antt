use Rattle.shared_endpoint.proofs.Grouping.{groups}
use Rattle.shared_endpoint.proofs.laws.groups_are_one_threads.Goals as goal

pub returns : goal.returns
returns g c = groups g.K.Keep.seen g.H.Handler.service g.met.K.Keep.sound
