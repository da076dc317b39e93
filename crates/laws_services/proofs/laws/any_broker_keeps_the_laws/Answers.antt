use Rattle.laws_stores.proofs.Keeping.{good_agrees}
use Rattle.laws_services.specs.Services.{sight_of}
use Rattle.laws_services.proofs.Running.{run_good, run_matching, run_clean}
use Rattle.laws_services.proofs.laws.any_broker_keeps_the_laws.Goals as goal

pub returns-clause-good : goal.returns-clause-good
returns-clause-good g c = λ first last run.
    run_good g.KO.Keep.seen g.KS.Keep.seen g.KA.Keep.seen first last run

pub returns-clause-agree : goal.returns-clause-agree
returns-clause-agree g c = λ first last run.
    good_agrees (sight_of g.KO.Keep.seen g.KS.Keep.seen g.KA.Keep.seen last)
    (run_good g.KO.Keep.seen g.KS.Keep.seen g.KA.Keep.seen first last run).services

pub returns-clause-matching : goal.returns-clause-matching
returns-clause-matching g c = λ first last run.
    run_matching g.KO.Keep.seen g.KS.Keep.seen g.KA.Keep.seen first last run

pub returns-clause-clean : goal.returns-clause-clean
returns-clause-clean g c = λ first last run.
    run_clean g.KO.Keep.seen g.KS.Keep.seen g.KA.Keep.seen first last run
