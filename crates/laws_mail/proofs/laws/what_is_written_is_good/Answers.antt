use Rattle.std.proofs.Common.{Some}
use Rattle.laws_mail.specs.Passing.{passing}
use Rattle.laws_mail.proofs.Frames.{send_good, send_receipted_good, send_within_good}
use Rattle.laws_mail.proofs.Serving.{not_carrying_good}
use Rattle.laws_mail.proofs.laws.what_is_written_is_good.Goals as goal

pub returns-clause-sends : goal.returns-clause-sends
returns-clause-sends c = λ test e is passes. (
  send_good (passing test) e is passes,
  λ number. send_receipted_good (passing test) e number is passes,
  λ number. send_within_good (passing test) e (Some number) is passes,
)

pub returns-clause-others : goal.returns-clause-others
returns-clause-others c = λ test. not_carrying_good (passing test)
