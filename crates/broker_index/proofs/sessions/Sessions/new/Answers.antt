use Rattle.broker_index.proofs.Numbered.{none_empty-none}
use Rattle.broker_index.proofs.sessions.Sessions.new.Goals as goal

pub invariant_of-result : goal.invariant_of-result
invariant_of-result c = none_empty-none c.new.result c.new.ensures.empty
