use Rattle.laws_journals.proofs.Agreement.{refused_left}
use Rattle.laws_journals.proofs.laws.refused_are_left_alone.Goals as goal

pub returns : goal.returns
returns c = refused_left
