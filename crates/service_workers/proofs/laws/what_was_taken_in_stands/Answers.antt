use Rattle.service_workers.proofs.Taking.{taking_stands}
use Rattle.service_workers.proofs.laws.what_was_taken_in_stands.Goals as goal

pub returns : goal.returns
returns g c = taking_stands g.K.Keep.seen g.H.Handler.service
