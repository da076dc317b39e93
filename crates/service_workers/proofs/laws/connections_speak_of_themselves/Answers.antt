use Rattle.service_workers.proofs.Lasting.{new_has_spoken}
use Rattle.service_workers.proofs.Written.{has_spoken_session}
use Rattle.service_workers.proofs.laws.connections_speak_of_themselves.Goals as goal

pub returns-clause-new : goal.returns-clause-new
returns-clause-new g c = new_has_spoken g.L.Link.put_gives g.L.Link.take_gives g.K.Keep.seen g.H.Handler.service

pub returns-clause-goes_on : goal.returns-clause-goes_on
returns-clause-goes_on g c = has_spoken_session g.L.Link.put_gives g.L.Link.take_gives g.K.Keep.seen g.H.Handler.service
