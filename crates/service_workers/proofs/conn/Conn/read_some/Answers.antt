use Rattle.std.proofs.Common.{[], refl}
use Rattle.service_workers.proofs.Reading.{some_last, turn_fault, turn_lost, turn_ok}
use Rattle.service_workers.proofs.Written.{writes_none}
use Rattle.service_workers.proofs.conn.Conn.read_some.Goals as goal

pub returns-after-self-clause-writes : goal.returns-after-self-clause-writes
returns-after-self-clause-writes g c = writes_none g.L.Link.put_gives g.L.Link.take_gives c.args.self.now _ _ refl c.read_in.ensures.gives c.read_in.ensures.written

pub returns-in-Err-Link-Memory-clause-writes : goal.returns-in-Err-Link-Memory-clause-writes
returns-in-Err-Link-Memory-clause-writes g c = writes_none g.L.Link.put_gives g.L.Link.take_gives c.args.self.now _ _ refl c.read_in.ensures.gives c.read_in.ensures.written

pub returns-in-Err-Link-clause-writes : goal.returns-in-Err-Link-clause-writes
returns-in-Err-Link-clause-writes g c = writes_none g.L.Link.put_gives g.L.Link.take_gives c.args.self.now _ _ refl c.read_in.ensures.gives c.read_in.ensures.written

pub returns-in-Err-Frame-clause-writes : goal.returns-in-Err-Frame-clause-writes
returns-in-Err-Frame-clause-writes g c = writes_none g.L.Link.put_gives g.L.Link.take_gives c.args.self.now _ _ refl c.read_in.ensures.gives c.read_in.ensures.written

pub returns-after-self-clause-reads : goal.returns-after-self-clause-reads
returns-after-self-clause-reads g c = turn_ok g.L.Link.put_gives g.L.Link.take_gives c.args.self.now _ _ c.in-Ok.count refl
    c.in-Ok.ensures.takes

pub returns-in-Err-Link-Memory-clause-reads : goal.returns-in-Err-Link-Memory-clause-reads
returns-in-Err-Link-Memory-clause-reads g c = turn_fault g.L.Link.put_gives g.L.Link.take_gives c.args.self.now _ _ _
    c.in-Err-Link-Memory.field-0
    c.in-Err-Link-Memory.field-0-is refl c.in-Err-Link-Memory.ensures.takes

pub returns-in-Err-Link-clause-reads : goal.returns-in-Err-Link-clause-reads
returns-in-Err-Link-clause-reads g c = some_last g.L.Link.put_gives g.L.Link.take_gives c.args.self.now _ (
  [],
  turn_fault g.L.Link.put_gives g.L.Link.take_gives c.args.self.now _ _ _
      c.in-Err-Link.field-0 c.in-Err-Link.field-0-is refl c.in-Err-Link.ensures.takes,
)

pub returns-in-Err-Frame-clause-reads : goal.returns-in-Err-Frame-clause-reads
returns-in-Err-Frame-clause-reads g c = turn_lost g.L.Link.put_gives g.L.Link.take_gives c.args.self.now _ _ _ c.in-Err-Frame.field-0
    c.in-Err-Frame.field-0-is refl c.in-Err-Frame.ensures.takes
