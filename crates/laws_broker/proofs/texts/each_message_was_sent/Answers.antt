use Rattle.laws_broker.proofs.Carrying.{messages_were_sent}
use Rattle.laws_broker.proofs.texts.each_message_was_sent.Goals as goal

pub returns : goal.returns
returns c = messages_were_sent
