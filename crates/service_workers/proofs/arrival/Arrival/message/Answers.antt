use Rattle.std.proofs.Common.{subst}
use Rattle.service_workers.specs.Reads.{Came}
use Rattle.service_workers.proofs.arrival.Arrival.message.Goals as goal

pub returns-clause-came : goal.returns-clause-came
returns-clause-came g c = λ s.
    subst (Came g.L.Link.put_gives g.L.Link.take_gives g.N.Naming.given) c.self.view_is (c.self.invariant.1 s).1
