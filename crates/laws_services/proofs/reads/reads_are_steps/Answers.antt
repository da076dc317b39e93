use Rattle.laws_services.proofs.Contracts.{stays_does}
use Rattle.laws_services.proofs.reads.reads_are_steps.Goals as goal

pub returns : goal.returns
returns g c = λ old new written.
    stays_does g.K.Keep.seen g.H.Handler.service old new written
