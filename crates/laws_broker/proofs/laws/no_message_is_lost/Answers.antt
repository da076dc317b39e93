use Rattle.laws_broker.proofs.Accounts.{loses_none}
use Rattle.laws_broker.proofs.laws.no_message_is_lost.Goals as goal

pub returns : goal.returns
returns c = loses_none
