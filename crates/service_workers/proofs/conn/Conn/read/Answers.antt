use Rattle.std.proofs.Common.{refl}
use Rattle.service_workers.proofs.Reading.{reads_nothing}
use Rattle.service_workers.proofs.conn.Conn.read.Goals as goal

pub returns-then-is_some-clause-reads : goal.returns-then-is_some-clause-reads
returns-then-is_some-clause-reads g c = reads_nothing g.L.Link.put_gives g.L.Link.take_gives c.args.self.now _ refl refl refl refl
