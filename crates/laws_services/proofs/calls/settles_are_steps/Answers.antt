use Rattle.endpoint.specs.Calls.{OfSettle}
use Rattle.laws_services.proofs.Contracts.{settle_does}
use Rattle.laws_services.proofs.calls.settles_are_steps.Goals as goal

pub returns : goal.returns
returns g c = λ old new written p number result.
    settle_does g.K.Keep.seen g.met.K.Keep.sound g.H.Handler.service old new OfSettle p p.from written number result
