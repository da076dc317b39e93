use Rattle.service_workers.proofs.Owing.{new_owes, owes_session}
use Rattle.service_workers.proofs.laws.new_connections_owe_no_answer.Goals as goal

pub returns-clause-new : goal.returns-clause-new
returns-clause-new g c = new_owes g.L.Link.put_gives g.L.Link.take_gives

pub returns-clause-goes_on : goal.returns-clause-goes_on
returns-clause-goes_on g c = owes_session g.L.Link.put_gives g.L.Link.take_gives
