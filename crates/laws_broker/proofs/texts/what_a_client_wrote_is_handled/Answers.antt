use Rattle.laws_broker.proofs.Carrying.{written_are_handled}
use Rattle.laws_broker.proofs.texts.what_a_client_wrote_is_handled.Goals as goal

pub returns : goal.returns
returns c = written_are_handled
