use Rattle.shared_endpoint.proofs.Telling.{stay_good}
use Rattle.shared_endpoint.proofs.laws.tokens_stay_good.Goals as goal

pub returns : goal.returns
returns g c = stay_good g.K.Keep.seen g.H.Handler.service g.met.K.Keep.sound
