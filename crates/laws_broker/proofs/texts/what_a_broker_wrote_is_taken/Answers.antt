use Rattle.laws_broker.proofs.Conversing.{clients_take_all}
use Rattle.laws_broker.proofs.texts.what_a_broker_wrote_is_taken.Goals as goal

pub returns : goal.returns
returns g c = clients_take_all _
