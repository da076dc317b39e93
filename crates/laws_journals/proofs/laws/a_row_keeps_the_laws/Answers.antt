use Rattle.laws_journals.proofs.Growth.{lawful-later, grows, authentic-later, settled-later}
use Rattle.laws_journals.proofs.laws.a_row_keeps_the_laws.Goals as goal

pub returns-clause-lawful : goal.returns-clause-lawful
returns-clause-lawful c = lawful-later

pub returns-clause-grows : goal.returns-clause-grows
returns-clause-grows c = grows

pub returns-clause-settled : goal.returns-clause-settled
returns-clause-settled c = λ js later settled g h. settled-later js later g settled h

pub returns-clause-authentic : goal.returns-clause-authentic
returns-clause-authentic c = λ js later e g h. authentic-later js later g e h
