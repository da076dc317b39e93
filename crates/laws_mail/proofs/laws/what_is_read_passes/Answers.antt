use Rattle.laws_mail.specs.Passing.{passing}
use Rattle.laws_mail.proofs.Frames.{message_ok}
use Rattle.laws_mail.proofs.laws.what_is_read_passes.Goals as goal

pub returns : goal.returns
returns c = λ test. message_ok (passing test)
