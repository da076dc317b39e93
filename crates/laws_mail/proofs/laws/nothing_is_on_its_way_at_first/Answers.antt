use Rattle.laws_mail.specs.Passing.{passing}
use Rattle.laws_mail.proofs.Mails.{new_mail_good}
use Rattle.laws_mail.proofs.laws.nothing_is_on_its_way_at_first.Goals as goal

pub returns : goal.returns
returns c = λ test. new_mail_good (passing test)
