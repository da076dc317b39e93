use Rattle.std.proofs.Common.{subst, Some, Ok}
use Rattle.endpoint.specs.declared.answer.Ingested.TheVariants as ingested
use Rattle.std.proofs.Common.{refl}
use Rattle.shared_endpoint.specs.Token.{hand_number}
use Rattle.service_workers.specs.Truth.{IngestedIn, DrainedIn}
use Rattle.service_workers.proofs.Truth.{handled_first, ingested_stays, knows_more, so_tells, still_knows}
use Rattle.service_workers.proofs.run.Run.answer_handled.Goals as goal

pub returns-in-Some-clause-told : goal.returns-in-Some-clause-told
returns-in-Some-clause-told g c = knows_more g.K.Keep.seen g.H.Handler.service hand_number g.N.Naming.sound
    (IngestedIn g.H.Handler.service c.args.letter.now (Ok (ingested.Handled c.args.position)))
    (DrainedIn g.H.Handler.service c.args.letter.now.pair (Some c.in-Some.last)) _
    (ingested_stays g.H.Handler.service c.args.letter.now (Ok (ingested.Handled c.args.position)) refl)
    (handled_first g.H.Handler.service c.args.letter.now c.args.position c.in-Some.last) _ _ c.drain.ensures.goes_on c.requires.told
    (so_tells g.K.Keep.seen g.H.Handler.service (DrainedIn g.H.Handler.service c.args.letter.now.pair c.drain.result) _
    (λ x h. subst (λ o. DrainedIn g.H.Handler.service c.args.letter.now.pair o x) c.in-Some.is h) _ _ c.drain.ensures.told)

pub returns-in-None-clause-told : goal.returns-in-None-clause-told
returns-in-None-clause-told g c = still_knows g.K.Keep.seen g.H.Handler.service hand_number g.N.Naming.sound
    (IngestedIn g.H.Handler.service c.args.letter.now (Ok (ingested.Handled c.args.position)))
    (ingested_stays g.H.Handler.service c.args.letter.now (Ok (ingested.Handled c.args.position)) refl) _ _ c.drain.ensures.goes_on c.requires.told
