use Rattle.laws_broker.proofs.Sending.{messages_sent}
use Rattle.laws_broker.proofs.laws.messages_were_sent.Goals as goal

pub returns : goal.returns
returns c = messages_sent
