use Rattle.stomp_session.proofs.Framing.{message_is_a_frame}
use Rattle.stomp_session.proofs.laws.messages_are_frames.Goals as goal

pub returns : goal.returns
returns c = message_is_a_frame
