use Rattle.laws_broker.proofs.Lasting.{nothing_is_refused}
use Rattle.laws_broker.proofs.texts.a_client_refuses_nothing.Goals as goal

pub returns : goal.returns
returns g c = nothing_is_refused _
