use Rattle.laws_broker.proofs.Running.{life_runs}
use Rattle.laws_broker.proofs.laws.lives_are_runs.Goals as goal

pub returns : goal.returns
returns c = life_runs
