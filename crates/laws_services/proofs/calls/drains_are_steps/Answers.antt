use Rattle.endpoint.specs.Calls.{OfHeldLetter}
use Rattle.laws_services.proofs.Contracts.{drain_does, drain_handled}
use Rattle.laws_services.proofs.calls.drains_are_steps.Goals as goal

pub returns-clause-does : goal.returns-clause-does
returns-clause-does g c = λ old new written p result.
    drain_does g.K.Keep.seen g.met.K.Keep.sound g.H.Handler.service old new OfHeldLetter p p.to written result

pub returns-clause-handled : goal.returns-clause-handled
returns-clause-handled g c = λ old new p number.
    drain_handled g.K.Keep.seen g.met.K.Keep.sound g.H.Handler.service old new OfHeldLetter p p.to number
