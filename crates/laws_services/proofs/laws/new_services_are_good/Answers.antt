use Rattle.laws_services.proofs.Running.{new_good, new_matching}
use Rattle.laws_services.proofs.laws.new_services_are_good.Goals as goal

pub returns-clause-good : goal.returns-clause-good
returns-clause-good g c = λ w new. new_good g.KO.Keep.seen g.KS.Keep.seen g.KA.Keep.seen w new

pub returns-clause-matching : goal.returns-clause-matching
returns-clause-matching g c = λ w new. new_matching g.KO.Keep.seen g.KS.Keep.seen g.KA.Keep.seen w new
