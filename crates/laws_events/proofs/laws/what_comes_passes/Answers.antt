use Rattle.laws_mail.specs.Passing.{passing}
use Rattle.laws_events.proofs.Threes.{first_came}
use Rattle.laws_events.proofs.laws.what_comes_passes.Goals as goal

pub returns : goal.returns
returns g c test a b d o genuine number f came e read = first_came (passing test) a b d o genuine number f came e read
