use Rattle.broker_queues.specs.Parts.Held.{holding_of}
use Rattle.broker_queues.proofs.Clearing.{swept_none}
use Rattle.broker_queues.proofs.Sweeping.{tidy}
use Rattle.broker_queues.proofs.parts.Parts.sweep_rest.Goals as goal

pub returns-else-notes_more-clause-sweeps : goal.returns-else-notes_more-clause-sweeps
returns-else-notes_more-clause-sweeps c is = tidy (holding_of c.args.self.now) is

pub returns-else-notes_more-clause-rest : goal.returns-else-notes_more-clause-rest
returns-else-notes_more-clause-rest c is = swept_none (holding_of c.args.self.now) c.args.age
