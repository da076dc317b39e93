use Rattle.std.proofs.Common.{refl}
use Rattle.service_workers.proofs.Reading.{reads_nothing}
use Rattle.service_workers.proofs.replying.finish.Goals as goal

pub returns-in-Some-clause-reads : goal.returns-in-Some-clause-reads
returns-in-Some-clause-reads g c =
    reads_nothing g.L.Link.put_gives g.L.Link.take_gives c.args.conn.now _ refl refl refl refl

pub returns-in-None-clause-reads : goal.returns-in-None-clause-reads
returns-in-None-clause-reads g c =
    reads_nothing g.L.Link.put_gives g.L.Link.take_gives c.args.conn.now _ refl refl refl refl

pub returns-in-Some-clause-answers : goal.returns-in-Some-clause-answers
returns-in-Some-clause-answers g c = c.finish_read.ensures.answers c.args.kind
