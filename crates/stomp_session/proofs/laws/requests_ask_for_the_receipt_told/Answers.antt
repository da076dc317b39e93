use Rattle.stomp_session.proofs.Accepting.{accepted_receipt}
use Rattle.stomp_session.proofs.laws.requests_ask_for_the_receipt_told.Goals as goal

pub returns : goal.returns
returns c = accepted_receipt
