use Rattle.laws_broker.proofs.Asking.{clients_ask_for_acks}
use Rattle.laws_broker.proofs.texts.clients_ask_for_acks.Goals as goal

pub returns : goal.returns
returns c = clients_ask_for_acks
