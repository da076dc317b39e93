use Rattle.laws_broker.proofs.Accounts.{told_once}
use Rattle.laws_broker.proofs.laws.accepted_sends_are_told_once.Goals as goal

pub returns : goal.returns
returns c = told_once
