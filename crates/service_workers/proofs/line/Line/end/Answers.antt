use Rattle.std.proofs.Common.{subst, sym}
use Rattle.shared_endpoint.specs.Keys.{shown_hand, shown_witness}
use Rattle.service_workers.specs.Conns.{or_was}
use Rattle.service_workers.specs.Written.{HasSpokenIf}
use Rattle.service_workers.proofs.Written.{spoken_before}
use Rattle.service_workers.proofs.line.Line.end.Goals as goal

pub returns-clause-spoken : goal.returns-clause-spoken
returns-clause-spoken g c = λ s.
    let conn = or_was c.self.inside.conn c.self.inside.was.value in
    subst (λ o. HasSpokenIf g.L.Link.put_gives g.L.Link.take_gives g.K.Keep.seen g.H.Handler.service (shown_hand c.learn.new.self) o)
    (sym c.cut_where-conn.ensures.same)
    (subst (λ es. HasSpokenIf g.L.Link.put_gives g.L.Link.take_gives g.K.Keep.seen g.H.Handler.service es conn)
    (sym c.learn.ensures.shown)
    (spoken_before g.L.Link.put_gives g.L.Link.take_gives g.K.Keep.seen g.H.Handler.service (shown_hand c.args.hand.now)
    (shown_witness c.self.inside.witness) conn (c.self.invariant.2 s)))
