use Rattle.stomp_session.proofs.Accepting.{accepted_fits}
use Rattle.stomp_session.proofs.laws.accepted_requests_fit.Goals as goal

pub returns : goal.returns
returns c = accepted_fits
