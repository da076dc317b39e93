use Rattle.service_workers.proofs.Lasting.{connections_stand}
use Rattle.service_workers.proofs.laws.what_connections_wrote_stands.Goals as goal

pub returns : goal.returns
returns g c = connections_stand g.L.Link.put_gives g.L.Link.take_gives g.K.Keep.seen g.H.Handler.service
