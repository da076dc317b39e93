use Rattle.broker_book.proofs.Acted.{deals_run, actions_run, runs_join}
use Rattle.broker_book.proofs.laws.steps_are_runs.Goals as goal

pub returns-clause-deals : goal.returns-clause-deals
returns-clause-deals c = deals_run

pub returns-clause-actions : goal.returns-clause-actions
returns-clause-actions c = actions_run

pub returns-clause-joined : goal.returns-clause-joined
returns-clause-joined c = runs_join
