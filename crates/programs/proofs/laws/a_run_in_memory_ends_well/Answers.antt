use Rattle.programs.proofs.InMemory.{ends_well}
use Rattle.programs.proofs.laws.a_run_in_memory_ends_well.Goals as goal

pub returns-clause-ended : goal.returns-clause-ended
returns-clause-ended c = ends_well
