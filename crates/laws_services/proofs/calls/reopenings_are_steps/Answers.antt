use Rattle.laws_services.proofs.Contracts.{found_does}
use Rattle.laws_services.proofs.calls.reopenings_are_steps.Goals as goal

pub returns : goal.returns
returns g c = λ old new written.
    found_does g.K.Keep.seen g.H.Handler.service old new written
