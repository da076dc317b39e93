use Rattle.std.specs.Prelude.{[]}
use Rattle.shared_endpoint.specs.Keys.{shown_witness}
use Rattle.service_workers.proofs.Coming.{line_reads}
use Rattle.service_workers.proofs.Owing.{line_owes, owes_session}
use Rattle.service_workers.proofs.Written.{line_goes}
use Rattle.service_workers.proofs.line.Line.leave.Goals as goal

pub invariant_of-self-2 : goal.invariant_of-self-2
invariant_of-self-2 g c =
    let known = line_goes g.L.Link.put_gives g.L.Link.take_gives g.K.Keep.seen g.H.Handler.service g.N.Naming.given g.N.Naming.sound
    (shown_witness c.self.inside.witness) c.self.inside.conn c.self.inside.was.value c.in-Some.conn c.leave.new.self
    c.in-Some.is (c.self.invariant.1, c.self.invariant.2) (c.leave.ensures.writes
    g.H.Handler.service.kind) in (
      c.self.invariant.0,
      known.0,
      known.1,
      line_reads g.L.Link.put_gives g.L.Link.take_gives g.N.Naming.sound c.self.inside.conn c.in-Some.conn c.leave.new.self c.in-Some.is
          c.self.invariant.3 ([], c.leave.ensures.reads),
      λ s stays. line_owes g.L.Link.put_gives g.L.Link.take_gives g.N.Naming.sound 0 0 c.self.inside.conn c.in-Some.conn c.leave.new.self c.in-Some.is
          (λ z. c.self.invariant.4 z stays) (owes_session g.L.Link.put_gives g.L.Link.take_gives 0 g.H.Handler.service.kind c.in-Some.conn
          c.leave.new.self c.leave.ensures.reads (c.leave.ensures.writes g.H.Handler.service.kind)) s,
    )
