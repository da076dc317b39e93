use Rattle.service_workers.proofs.Lives.{nothing_came}
use Rattle.service_workers.proofs.service.run_named.Goals as goal

pub returns-in-Err-clause-took : goal.returns-in-Err-clause-took
returns-in-Err-clause-took g c = nothing_came g.L.Link.put_gives g.L.Link.take_gives g.K.Keep.seen g.H.Handler.service
    g.N.Naming.sound g.N.Naming.given _ _ c.requires.of.hand.0.own
