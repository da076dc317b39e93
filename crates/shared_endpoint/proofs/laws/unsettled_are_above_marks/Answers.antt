use Rattle.shared_endpoint.proofs.Telling.{unsettled}
use Rattle.shared_endpoint.proofs.laws.unsettled_are_above_marks.Goals as goal

pub returns : goal.returns
returns g c = unsettled g.K.Keep.seen g.H.Handler.service g.met.K.Keep.sound
