use Rattle.service_workers.proofs.Reading.{given_came, given_more, last_came, unread_given}
use Rattle.service_workers.proofs.laws.what_connections_give_came.Goals as goal

pub returns-clause-new : goal.returns-clause-new
returns-clause-new g c = unread_given g.L.Link.put_gives g.L.Link.take_gives

pub returns-clause-goes_on : goal.returns-clause-goes_on
returns-clause-goes_on g c = λ before given c d h k.
    given_more g.L.Link.put_gives g.L.Link.take_gives before given c d k h

pub returns-clause-came : goal.returns-clause-came
returns-clause-came g c = given_came g.L.Link.put_gives g.L.Link.take_gives

pub returns-clause-ends : goal.returns-clause-ends
returns-clause-ends g c = last_came g.L.Link.put_gives g.L.Link.take_gives
