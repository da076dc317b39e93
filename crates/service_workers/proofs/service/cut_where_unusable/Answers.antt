use Rattle.service_workers.proofs.Lives.{none_came}
use Rattle.service_workers.proofs.service.cut_where_unusable.Goals as goal

pub returns-clause-took : goal.returns-clause-took
returns-clause-took g c = none_came g.L.Link.put_gives g.L.Link.take_gives g.K.Keep.seen g.H.Handler.service
    g.N.Naming.sound g.N.Naming.given _ _ c.look.ensures.goes_on c.look.ensures.took
