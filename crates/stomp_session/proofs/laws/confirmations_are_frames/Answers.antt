use Rattle.stomp_session.proofs.Framing.{connected_is_a_frame, receipt_is_a_frame}
use Rattle.stomp_session.proofs.laws.confirmations_are_frames.Goals as goal

pub returns-clause-connected : goal.returns-clause-connected
returns-clause-connected c = connected_is_a_frame

pub returns-clause-receipt : goal.returns-clause-receipt
returns-clause-receipt c = receipt_is_a_frame
