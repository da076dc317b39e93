use Rattle.laws_broker.proofs.Running.{step_runs}
use Rattle.laws_broker.proofs.laws.steps_are_runs.Goals as goal

pub returns : goal.returns
returns c = step_runs
