use Rattle.laws_services.proofs.Living.{lived_lawful, lived_settled, lived_agree}
use Rattle.laws_services.proofs.lives.overlapping_lives_agree.Goals as goal

pub returns-clause-lawful : goal.returns-clause-lawful
returns-clause-lawful c = λ t h. lived_lawful t h

pub returns-clause-settled : goal.returns-clause-settled
returns-clause-settled c = λ t h. lived_settled t h

pub returns-clause-agree : goal.returns-clause-agree
returns-clause-agree c = λ t h. lived_agree t h
