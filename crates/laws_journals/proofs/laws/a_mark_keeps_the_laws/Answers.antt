use Rattle.laws_journals.proofs.Growth.{raised-handled, raised-up}
use Rattle.laws_journals.proofs.laws.a_mark_keeps_the_laws.Goals as goal

pub returns-clause-settled : goal.returns-clause-settled
returns-clause-settled c = raised-handled

pub returns-clause-marks : goal.returns-clause-marks
returns-clause-marks c = raised-up
