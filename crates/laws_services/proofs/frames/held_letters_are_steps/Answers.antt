use Rattle.laws_services.proofs.Receiving.{drained_does, drained_handled}
use Rattle.laws_services.proofs.frames.held_letters_are_steps.Goals as goal

pub returns-clause-does : goal.returns-clause-does
returns-clause-does g c = λ old new written result.
    drained_does g.K.Keep.seen g.H.Handler.service old new written result

pub returns-clause-handled : goal.returns-clause-handled
returns-clause-handled g c = λ old new drained. drained_handled g.K.Keep.seen g.H.Handler.service old new drained
