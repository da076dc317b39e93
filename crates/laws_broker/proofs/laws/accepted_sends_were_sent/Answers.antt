use Rattle.laws_broker.proofs.Accounts.{were_sent}
use Rattle.laws_broker.proofs.laws.accepted_sends_were_sent.Goals as goal

pub returns : goal.returns
returns c = were_sent
