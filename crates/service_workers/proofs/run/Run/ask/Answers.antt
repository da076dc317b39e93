use Rattle.std.proofs.Common.{subst, sym}
use Rattle.shared_endpoint.specs.Keys.{told_hand}
use Rattle.service_workers.specs.Taking.{Only, Takes}
use Rattle.service_workers.specs.Truth.{AnsweredIn, IngestedIn, NotedIn}
use Rattle.service_workers.specs.declared.worker.Answer.TheVariants as answer
use Rattle.service_workers.proofs.Truth.{so_tells}
use Rattle.service_workers.proofs.run.Run.ask.Goals as goal

pub returns-then-is_ok-clause-told : goal.returns-then-is_ok-clause-told
returns-then-is_ok-clause-told g c = so_tells g.K.Keep.seen g.H.Handler.service
    (NotedIn g.H.Handler.service c.in-Settle.pair c.in-Settle.number c.settle-answer.result) _
    (λ x h. subst (λ e. AnsweredIn g.H.Handler.service e (answer.Settle c.settle-answer.result) x) (sym c.in-Settle.is) h) _ _
    c.settle-answer.ensures.told

pub returns-else-is_ok-clause-told : goal.returns-else-is_ok-clause-told
returns-else-is_ok-clause-told g c = so_tells g.K.Keep.seen g.H.Handler.service
    (NotedIn g.H.Handler.service c.in-Settle.pair c.in-Settle.number c.settle-answer.result) _
    (λ x h. subst (λ e. AnsweredIn g.H.Handler.service e (answer.Settle c.settle-answer.result) x) (sym c.in-Settle.is) h) _ _
    c.settle-answer.ensures.told

pub returns-then-is_ok-clause-took : goal.returns-then-is_ok-clause-took
returns-then-is_ok-clause-took g c = subst (λ e. Takes g.K.Keep.seen g.H.Handler.service (Only e) (told_hand c.args.hand.now)
    (told_hand c.settle-answer.new.hand)) (sym c.in-Settle.is) c.settle-answer.ensures.took

pub returns-else-is_ok-clause-took : goal.returns-else-is_ok-clause-took
returns-else-is_ok-clause-took g c = subst (λ e. Takes g.K.Keep.seen g.H.Handler.service (Only e) (told_hand c.args.hand.now)
    (told_hand c.settle-answer.new.hand)) (sym c.in-Settle.is) c.settle-answer.ensures.took

pub returns-in-Letter-clause-told : goal.returns-in-Letter-clause-told
returns-in-Letter-clause-told g c = so_tells g.K.Keep.seen g.H.Handler.service
    (IngestedIn g.H.Handler.service c.in-Letter.letter c.take_in-answer.result) _
    (λ j h. subst (λ e. AnsweredIn g.H.Handler.service e (answer.Letter c.take_in-answer.result) j) (sym c.in-Letter.is) h) _ _
    c.take_in-answer.ensures.told

pub returns-in-Letter-clause-took : goal.returns-in-Letter-clause-took
returns-in-Letter-clause-took g c = subst (λ e. Takes g.K.Keep.seen g.H.Handler.service (Only e) (told_hand c.args.hand.now)
    (told_hand c.take_in-answer.new.hand)) (sym c.in-Letter.is) c.take_in-answer.ensures.took
