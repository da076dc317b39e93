use Rattle.std.proofs.Common.{refl}
use Rattle.service_workers.proofs.Reading.{next_some}
use Rattle.service_workers.proofs.conn.Conn.throw_away.Goals as goal

pub returns-in-Ok-Some-clause-reads : goal.returns-in-Ok-Some-clause-reads
returns-in-Ok-Some-clause-reads g c = next_some g.L.Link.put_gives g.L.Link.take_gives c.args.self.now _ c.next.result refl refl
    c.next.ensures.gives
    c.next.ensures.none_waits

pub returns-in-Ok-Some-2-clause-reads : goal.returns-in-Ok-Some-2-clause-reads
returns-in-Ok-Some-2-clause-reads g c = next_some g.L.Link.put_gives g.L.Link.take_gives c.args.self.now _ c.next.result refl refl
    c.next.ensures.gives
    c.next.ensures.none_waits

pub returns-in-Err-clause-reads : goal.returns-in-Err-clause-reads
returns-in-Err-clause-reads g c = next_some g.L.Link.put_gives g.L.Link.take_gives c.args.self.now _ c.next.result refl refl
    c.next.ensures.gives
    c.next.ensures.none_waits

pub returns-in-Ok-None-clause-reads : goal.returns-in-Ok-None-clause-reads
returns-in-Ok-None-clause-reads g c = next_some g.L.Link.put_gives g.L.Link.take_gives c.args.self.now _ c.next.result refl refl
    c.next.ensures.gives
    c.next.ensures.none_waits

pub returns-in-Ok-None-2-clause-reads : goal.returns-in-Ok-None-2-clause-reads
returns-in-Ok-None-2-clause-reads g c = next_some g.L.Link.put_gives g.L.Link.take_gives c.args.self.now _ c.next.result refl refl
    c.next.ensures.gives
    c.next.ensures.none_waits
