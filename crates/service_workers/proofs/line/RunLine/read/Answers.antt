use Rattle.std.proofs.Common.{[]}
use Rattle.shared_endpoint.specs.Keys.{shown_witness}
use Rattle.service_workers.proofs.Coming.{dropped, line_reads, link_noted, link_stays, none_is_read}
use Rattle.service_workers.proofs.Knowing.{line_stays}
use Rattle.service_workers.proofs.Owing.{line_owes, none_owes, owes_quiet}
use Rattle.service_workers.proofs.line.RunLine.read.Goals as goal

pub invariant_of-self-in-Ok : goal.invariant_of-self-in-Ok
invariant_of-self-in-Ok g c =
    let known = line_stays g.L.Link.put_gives g.L.Link.take_gives g.K.Keep.seen g.H.Handler.service g.N.Naming.given g.N.Naming.sound
    (shown_witness c.self.inside.witness) c.self.inside.conn c.self.inside.was.value c.in-Some.conn c.read.new.self
    c.in-Some.is (c.self.invariant.1, c.self.invariant.2) c.read.ensures.writes in (
      c.self.invariant.0,
      known.0,
      known.1,
      line_reads g.L.Link.put_gives g.L.Link.take_gives g.N.Naming.sound c.self.inside.conn c.in-Some.conn c.read.new.self c.in-Some.is
          c.self.invariant.3 ([], c.in-Ok.ensures.reads),
      line_owes g.L.Link.put_gives g.L.Link.take_gives g.N.Naming.sound c.self.inside.owed c.self.inside.owed c.self.inside.conn c.in-Some.conn c.read.new.self
          c.in-Some.is c.self.invariant.4 (owes_quiet g.L.Link.put_gives g.L.Link.take_gives c.self.inside.owed c.in-Some.conn c.read.new.self
          c.in-Ok.ensures.reads c.read.ensures.writes),
      link_stays (g.M.RunNaming.begun c.self.inside.number) c.self.inside.conn c.self.inside.was.value c.in-Some.conn
          c.read.new.self c.in-Some.is c.read.ensures.writes.starts c.self.invariant.5,
    )

pub invariant_of-self-in-Err : goal.invariant_of-self-in-Err
invariant_of-self-in-Err g c =
    let known = line_stays g.L.Link.put_gives g.L.Link.take_gives g.K.Keep.seen g.H.Handler.service g.N.Naming.given g.N.Naming.sound
    (shown_witness c.self.inside.witness) c.self.inside.conn c.self.inside.was.value c.in-Some.conn c.read.new.self
    c.in-Some.is (c.self.invariant.1, c.self.invariant.2) c.read.ensures.writes in
    let last = dropped g.L.Link.put_gives g.L.Link.take_gives g.K.Keep.seen g.H.Handler.service g.N.Naming.given g.N.Naming.sound
    (shown_witness c.self.inside.witness) c.note_and_drop.new.conn c.note_and_drop.new.was.value c.read.new.self
    c.note_and_drop.ensures.none c.note_and_drop.ensures.was known in (
      c.self.invariant.0,
      last.0,
      last.1,
      λ s. none_is_read g.L.Link.put_gives g.L.Link.take_gives c.note_and_drop.new.conn c.note_and_drop.ensures.none,
      λ s. none_owes g.L.Link.put_gives g.L.Link.take_gives c.self.inside.owed c.note_and_drop.new.conn c.note_and_drop.ensures.none,
      link_noted (g.M.RunNaming.begun c.self.inside.number) c.self.inside.conn c.self.inside.was.value c.read.new.self
          c.note_and_drop.new.conn c.note_and_drop.new.was.value c.note_and_drop.ensures.none c.note_and_drop.ensures.was
          (link_stays (g.M.RunNaming.begun c.self.inside.number) c.self.inside.conn c.self.inside.was.value c.in-Some.conn
          c.read.new.self c.in-Some.is c.read.ensures.writes.starts c.self.invariant.5),
    )
