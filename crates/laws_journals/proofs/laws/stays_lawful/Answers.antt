use Rattle.laws_journals.specs.Steps.{start}
use Rattle.laws_journals.proofs.Steps.{step_good, reached_good, start_good}
use Rattle.laws_journals.proofs.laws.stays_lawful.Goals as goal

pub returns-clause-start : goal.returns-clause-start
returns-clause-start c = start_good

pub returns-clause-step : goal.returns-clause-step
returns-clause-step c = step_good

pub returns-clause-good : goal.returns-clause-good
returns-clause-good c = reached_good

pub returns-clause-lawful : goal.returns-clause-lawful
returns-clause-lawful c = λ new reached. (reached_good start new reached start_good).lawful

pub returns-clause-settled : goal.returns-clause-settled
returns-clause-settled c = λ new reached. (reached_good start new reached start_good).settled
