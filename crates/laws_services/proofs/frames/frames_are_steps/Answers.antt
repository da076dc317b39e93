use Rattle.laws_services.proofs.Receiving.{frame_does, frame_takes, frame_handled, frame_repeated}
use Rattle.laws_services.proofs.frames.frames_are_steps.Goals as goal

pub returns-clause-does : goal.returns-clause-does
returns-clause-does g c = λ old new written f result.
    frame_does g.K.Keep.seen g.H.Handler.service old new f written result

pub returns-clause-takes : goal.returns-clause-takes
returns-clause-takes g c = λ old new f taken l.
    frame_takes g.K.Keep.seen g.H.Handler.service old new f taken l

pub returns-clause-handled : goal.returns-clause-handled
returns-clause-handled g c = λ old new f position l.
    frame_handled g.K.Keep.seen g.H.Handler.service old new f position l

pub returns-clause-repeated : goal.returns-clause-repeated
returns-clause-repeated g c = λ old new f number l.
    frame_repeated g.K.Keep.seen g.H.Handler.service old new f number l
