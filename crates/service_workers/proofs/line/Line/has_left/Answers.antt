use Rattle.std.proofs.Common.{◌≡◌, true, false}
use Rattle.shared_endpoint.specs.Keys.{shown_witness}
use Rattle.service_workers.proofs.Coming.{dropped, line_reads, none_is_read}
use Rattle.service_workers.proofs.Knowing.{line_stays}
use Rattle.service_workers.proofs.line.Line.has_left.Goals as goal

pub invariant_of-self-else-has_left : goal.invariant_of-self-else-has_left
invariant_of-self-else-has_left g c =
    let known = line_stays g.L.Link.put_gives g.L.Link.take_gives g.K.Keep.seen g.H.Handler.service g.N.Naming.given g.N.Naming.sound
    (shown_witness c.self.inside.witness) c.self.inside.conn c.self.inside.was.value c.in-Some.conn c.has_left.new.self
    c.in-Some.is (c.self.invariant.1, c.self.invariant.2) c.has_left.ensures.writes in (
      c.self.invariant.0,
      known.0,
      known.1,
      line_reads g.L.Link.put_gives g.L.Link.take_gives g.N.Naming.sound c.self.inside.conn c.in-Some.conn c.has_left.new.self c.in-Some.is
          c.self.invariant.3 (c.has_left.ensures.reads c.if-has_left.false),
      λ s stays. absurd (let k : true ≡ false = stays in cc),
    )

pub invariant_of-self-then-has_left : goal.invariant_of-self-then-has_left
invariant_of-self-then-has_left g c =
    let known = line_stays g.L.Link.put_gives g.L.Link.take_gives g.K.Keep.seen g.H.Handler.service g.N.Naming.given g.N.Naming.sound
    (shown_witness c.self.inside.witness) c.self.inside.conn c.self.inside.was.value c.in-Some.conn c.has_left.new.self
    c.in-Some.is (c.self.invariant.1, c.self.invariant.2) c.has_left.ensures.writes in
    let last = dropped g.L.Link.put_gives g.L.Link.take_gives g.K.Keep.seen g.H.Handler.service g.N.Naming.given g.N.Naming.sound
    (shown_witness c.self.inside.witness) c.note_and_drop.new.conn c.note_and_drop.new.was.value c.has_left.new.self
    c.note_and_drop.ensures.none c.note_and_drop.ensures.was known in (
      c.self.invariant.0,
      last.0,
      last.1,
      λ s. none_is_read g.L.Link.put_gives g.L.Link.take_gives c.note_and_drop.new.conn c.note_and_drop.ensures.none,
      λ s stays. absurd (let k : true ≡ false = stays in cc),
    )
