use Rattle.stomp_session.proofs.Framing.{error_is_a_frame}
use Rattle.stomp_session.proofs.laws.errors_are_frames.Goals as goal

pub returns : goal.returns
returns c = error_is_a_frame
