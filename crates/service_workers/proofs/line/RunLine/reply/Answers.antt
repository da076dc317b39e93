use Rattle.std.proofs.Common.{[], ap, sym, ◌-◌, ◌∙◌, arith}
use Rattle.shared_endpoint.specs.Keys.{told_hand, shown_hand, shown_witness}
use Rattle.shared_endpoint.proofs.Witnessing.{witness_at}
use Rattle.service_workers.proofs.Coming.{dropped, its_frame, line_reads, link_noted, link_stays, none_is_read}
use Rattle.service_workers.proofs.Knowing.{line_replies}
use Rattle.service_workers.proofs.Owing.{line_owes, none_owes, owes_answered, was_answered}
use Rattle.service_workers.proofs.line.RunLine.reply.Goals as goal

pub invariant_of-self-in-Ok : goal.invariant_of-self-in-Ok
invariant_of-self-in-Ok g c =
    let known = line_replies g.L.Link.put_gives g.L.Link.take_gives g.K.Keep.seen g.H.Handler.service g.N.Naming.given g.N.Naming.sound
    (shown_witness c.self.inside.witness) (shown_witness c.witness-witness.result) (shown_witness c.learn.new.self)
    (told_hand c.args.hand.now) (shown_hand c.args.hand.now) c.self.inside.conn c.self.inside.was.value c.in-Some.conn
    c.finish.new.conn c.kind.result c.args.read.message c.args.answer c.finish.result c.kind.ensures
    (λ s. its_frame g.L.Link.put_gives g.L.Link.take_gives g.M.RunNaming.begun c.args.read.number c.self.inside.number
    c.self.inside.conn c.self.inside.was.value c.in-Some.conn c.args.read.message c.if-read-self.false c.in-Some.is
    c.self.invariant.5 (c.requires.came s))
    c.in-Some.is
    (c.self.invariant.1, c.self.invariant.2) c.witness-witness.ensures.shown c.learn.ensures.shown c.requires.told
    c.finish.ensures.answers c.finish.ensures.replied c.finish.ensures.link in (
      witness_at c.args.shared.now g.N.Naming.lock c.requires.at c.learn.new.self c.learn.ensures.witness,
      known.0,
      known.1,
      line_reads g.L.Link.put_gives g.L.Link.take_gives g.N.Naming.sound c.self.inside.conn c.in-Some.conn c.finish.new.conn c.in-Some.is
          c.self.invariant.3 ([], c.finish.ensures.reads),
      line_owes g.L.Link.put_gives g.L.Link.take_gives g.N.Naming.sound c.self.inside.owed (c.self.inside.owed - 1) c.self.inside.conn c.in-Some.conn
          c.finish.new.conn c.in-Some.is c.self.invariant.4 (owes_answered g.L.Link.put_gives g.L.Link.take_gives c.self.inside.owed (c.self.inside.owed - 1) c.kind.result
          c.args.read.message c.in-Some.conn c.finish.new.conn c.finish.result (omega arith) c.requires.message (ap was_answered c.in-Ok.is)
          c.finish.ensures.link.1 c.finish.ensures.link.0 c.finish.ensures.reads c.finish.ensures.answers),
      link_stays (g.M.RunNaming.begun c.self.inside.number) c.self.inside.conn c.self.inside.was.value c.in-Some.conn
          c.finish.new.conn c.in-Some.is c.finish.ensures.link.1 c.self.invariant.5,
    )

pub invariant_of-self-then-goes_on : goal.invariant_of-self-then-goes_on
invariant_of-self-then-goes_on g c =
    let known = line_replies g.L.Link.put_gives g.L.Link.take_gives g.K.Keep.seen g.H.Handler.service g.N.Naming.given g.N.Naming.sound
    (shown_witness c.self.inside.witness) (shown_witness c.witness-witness.result) (shown_witness c.learn.new.self)
    (told_hand c.args.hand.now) (shown_hand c.args.hand.now) c.self.inside.conn c.self.inside.was.value c.in-Some.conn
    c.finish.new.conn c.kind.result c.args.read.message c.args.answer c.finish.result c.kind.ensures
    (λ s. its_frame g.L.Link.put_gives g.L.Link.take_gives g.M.RunNaming.begun c.args.read.number c.self.inside.number
    c.self.inside.conn c.self.inside.was.value c.in-Some.conn c.args.read.message c.if-read-self.false c.in-Some.is
    c.self.invariant.5 (c.requires.came s))
    c.in-Some.is
    (c.self.invariant.1, c.self.invariant.2) c.witness-witness.ensures.shown c.learn.ensures.shown c.requires.told
    c.finish.ensures.answers c.finish.ensures.replied c.finish.ensures.link in (
      witness_at c.args.shared.now g.N.Naming.lock c.requires.at c.learn.new.self c.learn.ensures.witness,
      known.0,
      known.1,
      line_reads g.L.Link.put_gives g.L.Link.take_gives g.N.Naming.sound c.self.inside.conn c.in-Some.conn c.finish.new.conn c.in-Some.is
          c.self.invariant.3 ([], c.finish.ensures.reads),
      line_owes g.L.Link.put_gives g.L.Link.take_gives g.N.Naming.sound c.self.inside.owed (c.self.inside.owed - 1) c.self.inside.conn c.in-Some.conn
          c.finish.new.conn c.in-Some.is c.self.invariant.4 (owes_answered g.L.Link.put_gives g.L.Link.take_gives c.self.inside.owed (c.self.inside.owed - 1) c.kind.result
          c.args.read.message c.in-Some.conn c.finish.new.conn c.finish.result (omega arith) c.requires.message (ap was_answered c.in-Err.is ∙ sym c.goes_on.ensures ∙ c.if-goes_on.true)
          c.finish.ensures.link.1 c.finish.ensures.link.0 c.finish.ensures.reads c.finish.ensures.answers),
      link_stays (g.M.RunNaming.begun c.self.inside.number) c.self.inside.conn c.self.inside.was.value c.in-Some.conn
          c.finish.new.conn c.in-Some.is c.finish.ensures.link.1 c.self.invariant.5,
    )

pub invariant_of-self-in-Err-2 : goal.invariant_of-self-in-Err-2
invariant_of-self-in-Err-2 g c =
    let known = line_replies g.L.Link.put_gives g.L.Link.take_gives g.K.Keep.seen g.H.Handler.service g.N.Naming.given g.N.Naming.sound
    (shown_witness c.self.inside.witness) (shown_witness c.witness-witness.result) (shown_witness c.learn.new.self)
    (told_hand c.args.hand.now) (shown_hand c.args.hand.now) c.self.inside.conn c.self.inside.was.value c.in-Some.conn
    c.finish.new.conn c.kind.result c.args.read.message c.args.answer c.finish.result c.kind.ensures
    (λ s. its_frame g.L.Link.put_gives g.L.Link.take_gives g.M.RunNaming.begun c.args.read.number c.self.inside.number
    c.self.inside.conn c.self.inside.was.value c.in-Some.conn c.args.read.message c.if-read-self.false c.in-Some.is
    c.self.invariant.5 (c.requires.came s))
    c.in-Some.is
    (c.self.invariant.1, c.self.invariant.2) c.witness-witness.ensures.shown c.learn.ensures.shown c.requires.told
    c.finish.ensures.answers c.finish.ensures.replied c.finish.ensures.link in
    let last = dropped g.L.Link.put_gives g.L.Link.take_gives g.K.Keep.seen g.H.Handler.service g.N.Naming.given g.N.Naming.sound
    (shown_witness c.learn.new.self) c.note_and_drop.new.conn c.note_and_drop.new.was.value c.finish.new.conn
    c.note_and_drop.ensures.none c.note_and_drop.ensures.was known in (
      witness_at c.args.shared.now g.N.Naming.lock c.requires.at c.learn.new.self c.learn.ensures.witness,
      last.0,
      last.1,
      λ s. none_is_read g.L.Link.put_gives g.L.Link.take_gives c.note_and_drop.new.conn c.note_and_drop.ensures.none,
      λ s. none_owes g.L.Link.put_gives g.L.Link.take_gives c.self.inside.owed c.note_and_drop.new.conn c.note_and_drop.ensures.none,
      link_noted (g.M.RunNaming.begun c.self.inside.number) c.self.inside.conn c.self.inside.was.value c.finish.new.conn
          c.note_and_drop.new.conn c.note_and_drop.new.was.value c.note_and_drop.ensures.none c.note_and_drop.ensures.was
          (link_stays (g.M.RunNaming.begun c.self.inside.number) c.self.inside.conn c.self.inside.was.value c.in-Some.conn
          c.finish.new.conn c.in-Some.is c.finish.ensures.link.1 c.self.invariant.5),
    )
