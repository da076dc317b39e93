use Rattle.laws_journals.specs.Steps.{start}
use Rattle.laws_journals.proofs.Agreement.{partners_agree, order_sound, stock_sound, account_sound, sound}
use Rattle.laws_journals.proofs.Steps.{reached_good, start_good}
use Rattle.laws_journals.proofs.laws.agree.Goals as goal

pub returns-clause-partners : goal.returns-clause-partners
returns-clause-partners c = partners_agree

pub returns-clause-orders : goal.returns-clause-orders
returns-clause-orders c = order_sound

pub returns-clause-stocks : goal.returns-clause-stocks
returns-clause-stocks c = stock_sound

pub returns-clause-accounts : goal.returns-clause-accounts
returns-clause-accounts c = account_sound

pub returns-clause-lawful : goal.returns-clause-lawful
returns-clause-lawful c = λ js lawful. sound js lawful.prefixes

pub returns-clause-in_each : goal.returns-clause-in_each
returns-clause-in_each c = λ new reached. sound new.journals (reached_good start new reached start_good).lawful.prefixes
