use Rattle.laws_broker.proofs.Streams.{handled_in_order}
use Rattle.laws_broker.proofs.laws.frames_are_handled_in_order_all_life.Goals as goal

pub returns : goal.returns
returns c = handled_in_order
