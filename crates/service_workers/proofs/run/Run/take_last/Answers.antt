use Rattle.std.proofs.Common.{sym, subst}
use Rattle.shared_endpoint.specs.Keys.{told_hand}
use Rattle.shared_endpoint.specs.Token.{hand_number}
use Rattle.service_workers.specs.Taking.{CarriedIn, Takes}
use Rattle.service_workers.specs.Tokens.{GoesOn}
use Rattle.service_workers.specs.Truth.{AnsweredTo, Learns}
use Rattle.service_workers.proofs.Truth.{knows_now}
use Rattle.service_workers.proofs.run.Run.take_last.Goals as goal

pub finish_taking-requires-clause-told : goal.finish_taking-requires-clause-told
finish_taking-requires-clause-told g c = knows_now g.K.Keep.seen g.H.Handler.service hand_number g.N.Naming.sound
    (AnsweredTo g.H.Handler.service c.args.arrival c.ask_unread-answer.result) _ _
    c.ask_unread-answer.ensures.goes_on c.requires.sound
    (subst (λ m. Learns g.K.Keep.seen g.H.Handler.service (AnsweredTo g.H.Handler.service m c.ask_unread-answer.result)
    (told_hand c.args.hand.now) (told_hand c.ask_unread-answer.new.hand)) c.message.ensures.is
    c.ask_unread-answer.ensures.told)

pub returns-clause-goes_on : goal.returns-clause-goes_on
returns-clause-goes_on g c = subst (GoesOn g.K.Keep.seen g.H.Handler.service hand_number (told_hand c.args.hand.now))
    (sym c.finish_taking.ensures.knows) c.ask_unread-answer.ensures.goes_on

pub returns-clause-took : goal.returns-clause-took
returns-clause-took g c = subst (Takes g.K.Keep.seen g.H.Handler.service (CarriedIn c.args.arrival)
    (told_hand c.args.hand.now)) (sym c.finish_taking.ensures.knows)
    (subst (λ m. Takes g.K.Keep.seen g.H.Handler.service (CarriedIn m) (told_hand c.args.hand.now)
    (told_hand c.ask_unread-answer.new.hand)) c.message.ensures.is c.ask_unread-answer.ensures.took)
