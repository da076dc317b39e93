use Rattle.laws_broker.proofs.Conversing.{brokers_are_read}
use Rattle.laws_broker.proofs.texts.what_a_broker_wrote_is_read.Goals as goal

pub returns : goal.returns
returns c = brokers_are_read
