use Rattle.std.proofs.Common.{subst, sym, ◌∙◌, Some}
use Rattle.shared_endpoint.specs.Token.{hand_number}
use Rattle.service_workers.specs.Taking.{OnlyLetter}
use Rattle.service_workers.specs.Truth.{IngestedIn, DrainedIn}
use Rattle.service_workers.proofs.Further.{on_join}
use Rattle.service_workers.proofs.Taking.{then_nothing}
use Rattle.service_workers.proofs.Truth.{both_true, ingested_stays, so_tells, still_tells, then_tells, two_tell}
use Rattle.service_workers.proofs.run.Run.take_in.Goals as goal

pub returns-in-Some-clause-goes_on : goal.returns-in-Some-clause-goes_on
returns-in-Some-clause-goes_on g c = on_join g.K.Keep.seen g.H.Handler.service hand_number _ _ _
    c.ingest-answer.ensures.goes_on c.drain.ensures.goes_on

pub returns-in_default-clause-goes_on : goal.returns-in_default-clause-goes_on
returns-in_default-clause-goes_on g c = on_join g.K.Keep.seen g.H.Handler.service hand_number _ _ _
    c.ingest-answer.ensures.goes_on c.drain.ensures.goes_on

pub returns-in-Some-clause-told : goal.returns-in-Some-clause-told
returns-in-Some-clause-told g c = two_tell g.K.Keep.seen g.H.Handler.service
    (IngestedIn g.H.Handler.service c.args.letter.now c.ingest-answer.result) (DrainedIn g.H.Handler.service c.args.letter.now.pair (Some c.in-Some.last)) _
    (λ j. both_true g.H.Handler.service c.args.letter.now c.ingest-answer.result c.in-Some.last j (sym c.is_handled.ensures ∙ c.if-is_handled.true)) _ _
    (still_tells g.K.Keep.seen g.H.Handler.service hand_number (IngestedIn g.H.Handler.service c.args.letter.now c.ingest-answer.result)
    (ingested_stays g.H.Handler.service c.args.letter.now c.ingest-answer.result
    (sym c.is_handled.ensures ∙ c.if-is_handled.true)) _ _ _
    c.ingest-answer.ensures.goes_on c.drain.ensures.goes_on c.ingest-answer.ensures.told)
    (then_tells g.K.Keep.seen g.H.Handler.service hand_number (DrainedIn g.H.Handler.service c.args.letter.now.pair (Some c.in-Some.last)) _ _ _
    c.ingest-answer.ensures.goes_on c.drain.ensures.goes_on
    (so_tells g.K.Keep.seen g.H.Handler.service (DrainedIn g.H.Handler.service c.args.letter.now.pair c.drain.result) _
    (λ j h. subst (λ o. DrainedIn g.H.Handler.service c.args.letter.now.pair o j) c.in-Some.is h) _ _ c.drain.ensures.told))

pub returns-in_default-clause-told : goal.returns-in_default-clause-told
returns-in_default-clause-told g c =
    still_tells g.K.Keep.seen g.H.Handler.service hand_number (IngestedIn g.H.Handler.service c.args.letter.now c.ingest-answer.result)
    (ingested_stays g.H.Handler.service c.args.letter.now c.ingest-answer.result
    (sym c.is_handled.ensures ∙ c.if-is_handled.true)) _ _ _
    c.ingest-answer.ensures.goes_on c.drain.ensures.goes_on c.ingest-answer.ensures.told

pub returns-in-Some-clause-took : goal.returns-in-Some-clause-took
returns-in-Some-clause-took g c = then_nothing g.K.Keep.seen g.H.Handler.service hand_number (OnlyLetter c.args.letter.now) _ _ _
    c.ingest-answer.ensures.goes_on c.drain.ensures.goes_on c.ingest-answer.ensures.took c.drain.ensures.took

pub returns-in_default-clause-took : goal.returns-in_default-clause-took
returns-in_default-clause-took g c = then_nothing g.K.Keep.seen g.H.Handler.service hand_number (OnlyLetter c.args.letter.now) _ _ _
    c.ingest-answer.ensures.goes_on c.drain.ensures.goes_on c.ingest-answer.ensures.took c.drain.ensures.took
