use Rattle.std.proofs.Common.{subst}
use Rattle.shared_endpoint.specs.Token.{scout_number}
use Rattle.service_workers.specs.Truth.{AreSentIn, ListedIn}
use Rattle.service_workers.proofs.Truth.{knows_more, sent_more, sent_stays, so_tells, still_knows}
use Rattle.service_workers.proofs.run.Run.read_letters.Goals as goal

pub returns-in-Ok-clause-told : goal.returns-in-Ok-clause-told
returns-in-Ok-clause-told g c = knows_more g.K.Keep.seen g.H.Handler.service scout_number g.N.Naming.sound
    (AreSentIn g.H.Handler.service.reactions c.args.list.now.items)
    (AreSentIn g.H.Handler.service.reactions c.in-Ok.letters.items) _
    (sent_stays g.H.Handler.service.reactions scout_number c.args.list.now.items)
    (λ x. sent_more g.H.Handler.service.reactions c.args.list.now.items _ c.in-Ok.letters.items x c.pick.ensures) _ _
    c.unsettled.ensures.goes_on c.requires.told
    (so_tells g.K.Keep.seen g.H.Handler.service (ListedIn g.H.Handler.service.reactions c.unsettled.result) _
    (λ x h. subst (λ r. ListedIn g.H.Handler.service.reactions r x) c.in-Ok.is h) _ _ c.unsettled.ensures.told)

pub returns-in-Err-clause-told : goal.returns-in-Err-clause-told
returns-in-Err-clause-told g c = still_knows g.K.Keep.seen g.H.Handler.service scout_number g.N.Naming.sound
    (AreSentIn g.H.Handler.service.reactions c.args.list.now.items)
    (sent_stays g.H.Handler.service.reactions scout_number c.args.list.now.items) _ _
    c.unsettled.ensures.goes_on c.requires.told
