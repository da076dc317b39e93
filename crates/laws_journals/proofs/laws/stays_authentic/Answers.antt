use Rattle.laws_journals.proofs.Growth.{authentic-later}
use Rattle.laws_journals.proofs.Steps.{reached_grows, reached_marks}
use Rattle.laws_journals.proofs.laws.stays_authentic.Goals as goal

pub returns-clause-grows : goal.returns-clause-grows
returns-clause-grows c = reached_grows

pub returns-clause-authentic : goal.returns-clause-authentic
returns-clause-authentic c =
    λ old new e reached h. authentic-later old.journals new.journals (reached_grows old new reached) e h

pub returns-clause-marks : goal.returns-clause-marks
returns-clause-marks c = reached_marks
