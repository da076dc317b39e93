use Rattle.laws_broker.proofs.Running.{call_runs}
use Rattle.laws_broker.proofs.laws.calls_are_runs.Goals as goal

pub returns : goal.returns
returns c = call_runs
