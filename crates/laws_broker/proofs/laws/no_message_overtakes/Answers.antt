use Rattle.laws_broker.proofs.Accounts.{in_order}
use Rattle.laws_broker.proofs.laws.no_message_overtakes.Goals as goal

pub returns : goal.returns
returns c = in_order
