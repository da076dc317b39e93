use Rattle.std.proofs.Common.{refl}
use Rattle.service_workers.proofs.Reading.{reads_nothing}
use Rattle.service_workers.proofs.conn.Conn.write_much.Goals as goal

pub returns-then-out-lt-MUCH-clause-reads : goal.returns-then-out-lt-MUCH-clause-reads
returns-then-out-lt-MUCH-clause-reads g c = reads_nothing g.L.Link.put_gives g.L.Link.take_gives c.args.self.now _ refl refl refl refl
