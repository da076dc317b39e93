use Rattle.shared_endpoint.proofs.Ending.{closes_to_one}
use Rattle.shared_endpoint.proofs.laws.closes_to_one_history.Goals as goal

pub returns : goal.returns
returns g c = closes_to_one g.K.Keep.seen g.H.Handler.service g.met.K.Keep.sound
