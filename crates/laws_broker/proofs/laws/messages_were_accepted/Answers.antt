use Rattle.laws_broker.proofs.Accounts.{were_accepted}
use Rattle.laws_broker.proofs.laws.messages_were_accepted.Goals as goal

pub returns : goal.returns
returns c = were_accepted
