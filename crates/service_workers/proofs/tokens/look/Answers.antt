use Rattle.std.specs.Prelude.{length}
use Rattle.shared_endpoint.specs.Token.{hand_number}
use Rattle.service_workers.proofs.Further.{length_goes_on, look_finds_usable}
use Rattle.service_workers.proofs.Taking.{look_takes}
use Rattle.service_workers.proofs.tokens.look.Goals as goal

pub returns-clause-goes_on : goal.returns-clause-goes_on
returns-clause-goes_on g c = length_goes_on g.K.Keep.seen g.H.Handler.service _ _ c.look.result _ _
    c.tokens_stay_good.ensures (c.lengths_are_one_threads.ensures hand_number c.look.result) c.look.ensures.turn

pub returns-clause-took : goal.returns-clause-took
returns-clause-took g c = look_takes g.K.Keep.seen g.H.Handler.service _ c.look.result _ _
    (c.lengths_are_one_threads.ensures hand_number c.look.result) c.look.ensures.turn

pub returns-clause-usable : goal.returns-clause-usable
returns-clause-usable g c = look_finds_usable g.K.Keep.seen g.H.Handler.service hand_number (λ t. length t.journal) c.look.result
    _ _ c.look.ensures.turn
