use Rattle.stomp_client.proofs.Writing.{awaited, all_given}
use Rattle.stomp_client.proofs.laws.what_a_client_wrote_is_read.Goals as goal

pub returns-clause-awaits : goal.returns-clause-awaits
returns-clause-awaits c = awaited

pub returns-clause-all : goal.returns-clause-all
returns-clause-all c = all_given
