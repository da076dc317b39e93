use Rattle.std.proofs.Common.{refl}
use Rattle.service_workers.specs.Written.{IsOfSession}
use Rattle.service_workers.proofs.Reading.{reads_nothing}
use Rattle.service_workers.proofs.Speaking.{leaves_say}
use Rattle.service_workers.proofs.Written.{conn_says}
use Rattle.service_workers.proofs.conn.Conn.leave.Goals as goal

pub returns-clause-writes : goal.returns-clause-writes
returns-clause-writes g c = λ mine. conn_says g.L.Link.put_gives g.L.Link.take_gives (IsOfSession mine) c.args.self.now _ refl refl
    (leaves_say mine c.args.self.now.channel.client.client c.disconnect_with_receipt.new.self.client c.disconnect_with_receipt.result
    c.disconnect_with_receipt.ensures.does)

pub returns-clause-reads : goal.returns-clause-reads
returns-clause-reads g c = reads_nothing g.L.Link.put_gives g.L.Link.take_gives c.args.self.now _ refl refl refl refl
