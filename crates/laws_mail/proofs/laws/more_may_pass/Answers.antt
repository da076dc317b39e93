use Rattle.laws_mail.specs.Passing.{passing}
use Rattle.laws_mail.proofs.More.{mail_more}
use Rattle.laws_mail.proofs.laws.more_may_pass.Goals as goal

pub returns : goal.returns
returns c = λ test other k. mail_more (passing test) (passing other) k
