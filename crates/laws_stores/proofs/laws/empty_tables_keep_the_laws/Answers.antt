use Rattle.laws_stores.proofs.Beginning.{empty_lawful, empty_marks, empty_holds}
use Rattle.laws_stores.proofs.laws.empty_tables_keep_the_laws.Goals as goal

pub returns-clause-lawful : goal.returns-clause-lawful
returns-clause-lawful c = empty_lawful

pub returns-clause-settled : goal.returns-clause-settled
returns-clause-settled c = empty_marks

pub returns-clause-held : goal.returns-clause-held
returns-clause-held c = empty_holds
