use Rattle.stomp_session.proofs.Accepting.{told_receipts_fit}
use Rattle.stomp_session.proofs.laws.receipts_told_are_short.Goals as goal

pub returns : goal.returns
returns c = told_receipts_fit
