use Rattle.shared_endpoint.proofs.Witnessing.{witnesses}
use Rattle.shared_endpoint.proofs.laws.witnesses_are_borne_out.Goals as goal

pub returns : goal.returns
returns g c = witnesses g.K.Keep.seen g.H.Handler.service
