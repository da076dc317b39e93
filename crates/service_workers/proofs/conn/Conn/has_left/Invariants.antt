use Rattle.std.specs.Prelude.{[]}
use Rattle.service_workers.specs.Reads.{ReadsSome}
use Rattle.service_workers.specs.Written.{WritesOnly}
use Rattle.service_workers.proofs.conn.Conn.has_left.Given as goal

abbrev pub invariant-loop : goal.invariant-loop
invariant-loop g l = WritesOnly g.L.Link.put_gives g.L.Link.take_gives [] l.fn.self l.self
    × ReadsSome g.L.Link.put_gives g.L.Link.take_gives l.fn.self l.self
