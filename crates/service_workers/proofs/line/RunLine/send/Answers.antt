use Rattle.std.specs.Prelude.{[]}
use Rattle.shared_endpoint.specs.Keys.{told_scout, shown_scout, shown_witness}
use Rattle.shared_endpoint.proofs.Witnessing.{witness_at}
use Rattle.service_workers.proofs.Coming.{line_reads, link_stays}
use Rattle.service_workers.proofs.Knowing.{line_sends}
use Rattle.service_workers.proofs.Owing.{line_owes, owes_letters}
use Rattle.service_workers.proofs.line.RunLine.send.Goals as goal

pub invariant_of-self-2 : goal.invariant_of-self-2
invariant_of-self-2 g c =
    let known = line_sends g.L.Link.put_gives g.L.Link.take_gives g.K.Keep.seen g.H.Handler.service g.N.Naming.given g.N.Naming.sound
    (shown_witness c.self.inside.witness) (shown_witness c.witness-witness.result) (shown_witness c.learn.new.self)
    (told_scout c.args.scout.now) (shown_scout c.args.scout.now) c.self.inside.conn c.self.inside.was.value c.in-Some.conn
    c.send.new.self c.args.letters.now c.in-Some.is (c.self.invariant.1, c.self.invariant.2)
    c.witness-witness.ensures.shown c.learn.ensures.shown c.requires.told c.send.ensures.writes in (
      witness_at c.args.shared.now g.N.Naming.lock c.requires.at c.learn.new.self c.learn.ensures.witness,
      known.0,
      known.1,
      line_reads g.L.Link.put_gives g.L.Link.take_gives g.N.Naming.sound c.self.inside.conn c.in-Some.conn c.send.new.self c.in-Some.is
          c.self.invariant.3 ([], c.send.ensures.reads),
      line_owes g.L.Link.put_gives g.L.Link.take_gives g.N.Naming.sound c.self.inside.owed c.self.inside.owed c.self.inside.conn c.in-Some.conn c.send.new.self
          c.in-Some.is c.self.invariant.4 (owes_letters g.L.Link.put_gives g.L.Link.take_gives c.self.inside.owed c.args.letters.now c.in-Some.conn
          c.send.new.self c.send.ensures.reads c.send.ensures.writes),
      link_stays (g.M.RunNaming.begun c.self.inside.number) c.self.inside.conn c.self.inside.was.value c.in-Some.conn
          c.send.new.self c.in-Some.is c.send.ensures.writes.2.starts c.self.invariant.5,
    )
