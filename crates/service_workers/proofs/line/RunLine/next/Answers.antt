use Rattle.std.proofs.Common.{◌+◌, ◌∙◌, Some, subst, sym}
use Rattle.shared_endpoint.specs.Keys.{shown_witness}
use Rattle.service_workers.specs.Conns.{RunStanding}
use Rattle.service_workers.specs.Owing.{owed_by, OwesIf}
use Rattle.service_workers.specs.Reads.{CameOver, IfFound}
use Rattle.service_workers.specs.Written.{WritesOfSession}
use Rattle.service_workers.proofs.Coming.{dropped, line_finds, link_noted, link_stays, none_is_read}
use Rattle.service_workers.proofs.Owing.{line_owes, none_owes, owes_found}
use Rattle.service_workers.proofs.Written.{line_goes}
use Rattle.service_workers.proofs.line.RunLine.next.Goals as goal

pub invariant_of-self-else-is_over : goal.invariant_of-self-else-is_over
invariant_of-self-else-is_over g c =
    let known = line_goes g.L.Link.put_gives g.L.Link.take_gives g.K.Keep.seen g.H.Handler.service g.N.Naming.given g.N.Naming.sound
    (shown_witness c.self.inside.witness) c.self.inside.conn c.self.inside.was.value c.in-Some.conn c.next-found.new.self
    c.in-Some.is (c.self.invariant.1, c.self.invariant.2)
    (subst (λ k. WritesOfSession g.L.Link.put_gives g.L.Link.take_gives k c.in-Some.conn c.next-found.new.self) c.kind.ensures
    c.next-found.ensures.writes) in (
      c.self.invariant.0,
      known.0,
      known.1,
      λ s. (line_finds g.L.Link.put_gives g.L.Link.take_gives g.N.Naming.sound c.self.inside.conn c.in-Some.conn c.next-found.new.self
          g.N.Naming.given (g.M.RunNaming.begun c.self.inside.number) c.self.inside.was.value c.next-found.result c.in-Some.is
          c.self.invariant.1 c.self.invariant.5 c.self.invariant.3 c.next-found.ensures.finds s).1,
      λ s. subst (λ n. OwesIf g.L.Link.put_gives g.L.Link.take_gives (c.self.inside.owed + n) (Some c.next-found.new.self)) (sym c.owed.ensures.is)
          (line_owes g.L.Link.put_gives g.L.Link.take_gives g.N.Naming.sound c.self.inside.owed (c.self.inside.owed + owed_by c.next-found.result) c.self.inside.conn
          c.in-Some.conn c.next-found.new.self
          c.in-Some.is c.self.invariant.4 (owes_found g.L.Link.put_gives g.L.Link.take_gives c.self.inside.owed c.kind.result c.next-found.result c.in-Some.conn
          c.next-found.new.self
          (sym c.is_over.ensures ∙ c.if-is_over.false) c.next-found.ensures.finds c.next-found.ensures.writes) s),
      link_stays (g.M.RunNaming.begun c.self.inside.number) c.self.inside.conn c.self.inside.was.value c.in-Some.conn
          c.next-found.new.self c.in-Some.is c.next-found.ensures.writes.2.starts c.self.invariant.5,
    )

pub invariant_of-self-then-is_over : goal.invariant_of-self-then-is_over
invariant_of-self-then-is_over g c =
    let known = line_goes g.L.Link.put_gives g.L.Link.take_gives g.K.Keep.seen g.H.Handler.service g.N.Naming.given g.N.Naming.sound
    (shown_witness c.self.inside.witness) c.self.inside.conn c.self.inside.was.value c.in-Some.conn c.next-found.new.self
    c.in-Some.is (c.self.invariant.1, c.self.invariant.2)
    (subst (λ k. WritesOfSession g.L.Link.put_gives g.L.Link.take_gives k c.in-Some.conn c.next-found.new.self) c.kind.ensures
    c.next-found.ensures.writes) in
    let last = dropped g.L.Link.put_gives g.L.Link.take_gives g.K.Keep.seen g.H.Handler.service g.N.Naming.given g.N.Naming.sound
    (shown_witness c.self.inside.witness) c.note_and_drop.new.conn c.note_and_drop.new.was.value c.next-found.new.self
    c.note_and_drop.ensures.none c.note_and_drop.ensures.was known in (
      c.self.invariant.0,
      last.0,
      last.1,
      λ s. none_is_read g.L.Link.put_gives g.L.Link.take_gives c.note_and_drop.new.conn c.note_and_drop.ensures.none,
      λ s. none_owes g.L.Link.put_gives g.L.Link.take_gives _ c.note_and_drop.new.conn c.note_and_drop.ensures.none,
      link_noted (g.M.RunNaming.begun c.self.inside.number) c.self.inside.conn c.self.inside.was.value c.next-found.new.self
          c.note_and_drop.new.conn c.note_and_drop.new.was.value c.note_and_drop.ensures.none c.note_and_drop.ensures.was
          (link_stays (g.M.RunNaming.begun c.self.inside.number) c.self.inside.conn c.self.inside.was.value c.in-Some.conn
          c.next-found.new.self c.in-Some.is c.next-found.ensures.writes.2.starts c.self.invariant.5),
    )

pub returns-else-is_over-clause-came : goal.returns-else-is_over-clause-came
returns-else-is_over-clause-came g c = λ s.
    subst (λ (l : RunStanding). IfFound (CameOver g.L.Link.put_gives g.L.Link.take_gives g.N.Naming.given
    (g.M.RunNaming.begun l.number)) c.next-found.result) c.self.view_is
    (line_finds g.L.Link.put_gives g.L.Link.take_gives g.N.Naming.sound c.self.inside.conn c.in-Some.conn c.next-found.new.self
    g.N.Naming.given (g.M.RunNaming.begun c.self.inside.number) c.self.inside.was.value c.next-found.result c.in-Some.is
    c.self.invariant.1 c.self.invariant.5 c.self.invariant.3 c.next-found.ensures.finds s).0

pub returns-then-is_over-clause-came : goal.returns-then-is_over-clause-came
returns-then-is_over-clause-came g c = λ s.
    subst (λ (l : RunStanding). IfFound (CameOver g.L.Link.put_gives g.L.Link.take_gives g.N.Naming.given
    (g.M.RunNaming.begun l.number)) c.next-found.result) c.self.view_is
    (line_finds g.L.Link.put_gives g.L.Link.take_gives g.N.Naming.sound c.self.inside.conn c.in-Some.conn c.next-found.new.self
    g.N.Naming.given (g.M.RunNaming.begun c.self.inside.number) c.self.inside.was.value c.next-found.result c.in-Some.is
    c.self.invariant.1 c.self.invariant.5 c.self.invariant.3 c.next-found.ensures.finds s).0
