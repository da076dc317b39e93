use Rattle.broker_server.proofs.Living.{read_is_handled}
use Rattle.broker_server.proofs.laws.what_is_read_is_handled_once_and_in_order.Goals as goal

pub returns : goal.returns
returns c = read_is_handled
