use Rattle.std.proofs.Common.{[], ap, refl, subst, sym}
use Rattle.shared_endpoint.specs.Keys.{shown_witness}
use Rattle.service_workers.specs.Conns.{start_of}
use Rattle.service_workers.specs.Reads.{ReadsOnly}
use Rattle.service_workers.specs.Written.{WritesOnly}
use Rattle.service_workers.proofs.Coming.{line_reads, link_stays}
use Rattle.service_workers.proofs.Knowing.{line_stays}
use Rattle.service_workers.proofs.Owing.{line_owes, owes_quiet}
use Rattle.service_workers.proofs.Reading.{reads_nothing}
use Rattle.service_workers.proofs.Written.{writes_nothing}
use Rattle.service_workers.proofs.line.RunLine.counted.Goals as goal

pub invariant_of-self-2 : goal.invariant_of-self-2
invariant_of-self-2 g c =
    let known = line_stays g.L.Link.put_gives g.L.Link.take_gives g.K.Keep.seen g.H.Handler.service g.N.Naming.given g.N.Naming.sound
    (shown_witness c.self.inside.witness) c.self.inside.conn c.self.inside.was.value c.in-Some.conn c.counted.new.self
    c.in-Some.is (c.self.invariant.1, c.self.invariant.2) (subst (WritesOnly g.L.Link.put_gives g.L.Link.take_gives [] c.in-Some.conn)
    (sym c.counted.ensures)
    (writes_nothing g.L.Link.put_gives g.L.Link.take_gives c.in-Some.conn _ refl refl refl)) in (
      c.self.invariant.0,
      known.0,
      known.1,
      line_reads g.L.Link.put_gives g.L.Link.take_gives g.N.Naming.sound c.self.inside.conn c.in-Some.conn c.counted.new.self c.in-Some.is
          c.self.invariant.3 (
            [],
            subst (ReadsOnly g.L.Link.put_gives g.L.Link.take_gives [] c.in-Some.conn) (sym c.counted.ensures)
                (reads_nothing g.L.Link.put_gives g.L.Link.take_gives c.in-Some.conn _ refl refl refl refl),
          ),
      line_owes g.L.Link.put_gives g.L.Link.take_gives g.N.Naming.sound c.self.inside.owed c.self.inside.owed c.self.inside.conn c.in-Some.conn c.counted.new.self
          c.in-Some.is c.self.invariant.4 (owes_quiet g.L.Link.put_gives g.L.Link.take_gives c.self.inside.owed c.in-Some.conn c.counted.new.self
          (subst (ReadsOnly g.L.Link.put_gives g.L.Link.take_gives [] c.in-Some.conn) (sym c.counted.ensures)
          (reads_nothing g.L.Link.put_gives g.L.Link.take_gives c.in-Some.conn _ refl refl refl refl))
          (subst (WritesOnly g.L.Link.put_gives g.L.Link.take_gives [] c.in-Some.conn) (sym c.counted.ensures)
          (writes_nothing g.L.Link.put_gives g.L.Link.take_gives c.in-Some.conn _ refl refl refl))),
      link_stays (g.M.RunNaming.begun c.self.inside.number) c.self.inside.conn c.self.inside.was.value c.in-Some.conn
          c.counted.new.self c.in-Some.is (ap start_of c.counted.ensures) c.self.invariant.5,
    )
