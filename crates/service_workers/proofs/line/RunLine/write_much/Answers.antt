use Rattle.std.specs.Prelude.{[]}
use Rattle.shared_endpoint.specs.Keys.{shown_witness}
use Rattle.service_workers.proofs.Coming.{line_reads, link_stays}
use Rattle.service_workers.proofs.Knowing.{line_stays}
use Rattle.service_workers.proofs.Owing.{line_owes, owes_quiet}
use Rattle.service_workers.proofs.line.RunLine.write_much.Goals as goal

pub invariant_of-self-2 : goal.invariant_of-self-2
invariant_of-self-2 g c =
    let known = line_stays g.L.Link.put_gives g.L.Link.take_gives g.K.Keep.seen g.H.Handler.service g.N.Naming.given g.N.Naming.sound
    (shown_witness c.self.inside.witness) c.self.inside.conn c.self.inside.was.value c.in-Some.conn c.write_much.new.self
    c.in-Some.is (c.self.invariant.1, c.self.invariant.2) c.write_much.ensures.writes in (
      c.self.invariant.0,
      known.0,
      known.1,
      line_reads g.L.Link.put_gives g.L.Link.take_gives g.N.Naming.sound c.self.inside.conn c.in-Some.conn c.write_much.new.self c.in-Some.is
          c.self.invariant.3 ([], c.write_much.ensures.reads),
      line_owes g.L.Link.put_gives g.L.Link.take_gives g.N.Naming.sound c.self.inside.owed c.self.inside.owed c.self.inside.conn c.in-Some.conn c.write_much.new.self
          c.in-Some.is c.self.invariant.4 (owes_quiet g.L.Link.put_gives g.L.Link.take_gives c.self.inside.owed c.in-Some.conn c.write_much.new.self
          c.write_much.ensures.reads c.write_much.ensures.writes),
      link_stays (g.M.RunNaming.begun c.self.inside.number) c.self.inside.conn c.self.inside.was.value c.in-Some.conn
          c.write_much.new.self c.in-Some.is c.write_much.ensures.writes.starts c.self.invariant.5,
    )
