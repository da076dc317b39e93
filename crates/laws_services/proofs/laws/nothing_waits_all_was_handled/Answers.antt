use Rattle.laws_services.proofs.Running.{run_handled}
use Rattle.laws_services.proofs.laws.nothing_waits_all_was_handled.Goals as goal

pub returns : goal.returns
returns g c = λ first last run.
    run_handled g.KO.Keep.seen g.KS.Keep.seen g.KA.Keep.seen first last run
