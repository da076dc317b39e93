use Rattle.laws_broker.proofs.Streams.{others_leave}
use Rattle.laws_broker.proofs.laws.other_calls_leave_a_session.Goals as goal

pub returns : goal.returns
returns c = others_leave
