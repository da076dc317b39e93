use Rattle.std.proofs.Common.{ℕ, ◌-◌, ◌∙◌, ap, arith, subst, sym}
use Rattle.shared_endpoint.specs.Keys.{shown_witness}
use Rattle.stomp_client.specs.Clients.{Client}
use Rattle.service_workers.specs.Conns.{link_of, start_of}
use Rattle.service_workers.specs.Reads.{CameFrom}
use Rattle.service_workers.proofs.Coming.{line_keeps, link_stays}
use Rattle.service_workers.proofs.Knowing.{line_stays}
use Rattle.service_workers.proofs.Owing.{is_none, line_owes, owes_kept}
use Rattle.service_workers.proofs.Written.{writes_nothing}
use Rattle.service_workers.proofs.line.RunLine.keep.Goals as goal

pub invariant_of-self-2 : goal.invariant_of-self-2
invariant_of-self-2 g c =
    let known = line_stays g.L.Link.put_gives g.L.Link.take_gives g.K.Keep.seen g.H.Handler.service g.N.Naming.given g.N.Naming.sound
    (shown_witness c.self.inside.witness) c.self.inside.conn c.self.inside.was.value c.in-Some.conn c.keep.new.self
    c.in-Some.is (c.self.invariant.1, c.self.invariant.2) (writes_nothing g.L.Link.put_gives g.L.Link.take_gives c.in-Some.conn
    c.keep.new.self
    (ap start_of c.keep.ensures.rest) (ap link_of c.keep.ensures.rest) (ap (λ (k : Client ℕ). k.out) c.keep.ensures.client)) in (
      c.self.invariant.0,
      known.0,
      known.1,
      line_keeps g.L.Link.put_gives g.L.Link.take_gives g.N.Naming.sound c.self.inside.conn c.in-Some.conn c.keep.new.self
          (g.M.RunNaming.begun c.self.inside.number) c.self.inside.was.value c.args.frame c.in-Some.is c.self.invariant.5
          c.self.invariant.3 (λ s. subst (λ k. CameFrom g.L.Link.put_gives g.L.Link.take_gives k c.args.frame)
          (ap g.M.RunNaming.begun c.if-number-self.false) (c.requires.came s)) c.keep.ensures.back,
      line_owes g.L.Link.put_gives g.L.Link.take_gives g.N.Naming.sound c.self.inside.owed (c.self.inside.owed - 1) c.self.inside.conn c.in-Some.conn c.keep.new.self
          c.in-Some.is c.self.invariant.4 (owes_kept g.L.Link.put_gives g.L.Link.take_gives c.self.inside.owed (c.self.inside.owed - 1) c.args.frame c.in-Some.conn c.keep.new.self
          (omega arith) c.requires.message (is_none c.in-Some.conn.channel.waiting (sym c.has_next.ensures ∙ c.if-has_next.false)) c.keep.ensures.back (writes_nothing g.L.Link.put_gives g.L.Link.take_gives c.in-Some.conn c.keep.new.self
          (ap start_of c.keep.ensures.rest) (ap link_of c.keep.ensures.rest) (ap (λ (k : Client ℕ). k.out) c.keep.ensures.client))),
      link_stays (g.M.RunNaming.begun c.self.inside.number) c.self.inside.conn c.self.inside.was.value c.in-Some.conn
          c.keep.new.self c.in-Some.is (ap start_of c.keep.ensures.rest) c.self.invariant.5,
    )
