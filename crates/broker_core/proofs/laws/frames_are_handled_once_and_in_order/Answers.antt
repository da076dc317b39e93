use Rattle.broker_core.proofs.Feedings.{handled_first}
use Rattle.broker_core.proofs.laws.frames_are_handled_once_and_in_order.Goals as goal

pub returns : goal.returns
returns c = handled_first
