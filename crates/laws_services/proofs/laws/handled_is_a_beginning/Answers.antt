use Rattle.laws_services.proofs.Running.{run_good}
use Rattle.laws_services.proofs.laws.handled_is_a_beginning.Goals as goal

pub returns-clause-handled : goal.returns-clause-handled
returns-clause-handled g c = λ first last run t may.
    ((run_good g.KO.Keep.seen g.KS.Keep.seen g.KA.Keep.seen first last run).services.lawful t may).prefixes

pub returns-clause-settled : goal.returns-clause-settled
returns-clause-settled g c = λ first last run t may.
    (run_good g.KO.Keep.seen g.KS.Keep.seen g.KA.Keep.seen first last run).services.settled t may
