use Rattle.std.proofs.Common.{subst, sym, IfOk}
use Rattle.shared_endpoint.specs.Keys.{shown_witness}
use Rattle.service_workers.specs.Conns.{IsNewConnBy}
use Rattle.service_workers.specs.Reads.{IsUnread}
use Rattle.service_workers.proofs.Lasting.{new_has_spoken}
use Rattle.service_workers.proofs.Owing.{new_owes}
use Rattle.service_workers.proofs.Reading.{unread_is_read}
use Rattle.service_workers.proofs.line.Line.open_by.Goals as goal

pub invariant_of-self : goal.invariant_of-self
invariant_of-self g c =
    let new = subst (λ r. IfOk r (IsNewConnBy c.args.connect.now c.args.prefetch c.args.link)) c.in-Ok.is c.open_by.ensures.ok in (
      c.self.invariant.0,
      subst g.N.Naming.given (sym new.starts) c.requires.given,
      λ s. new_has_spoken g.L.Link.put_gives g.L.Link.take_gives g.K.Keep.seen g.H.Handler.service
          (shown_witness c.self.inside.witness) c.args.connect.now c.args.prefetch c.args.link c.in-Ok.conn c.requires.command new,
      λ s. unread_is_read g.L.Link.put_gives g.L.Link.take_gives c.in-Ok.conn
          (subst (λ r. IfOk r IsUnread) c.in-Ok.is c.open_by.ensures.unread),
      λ s stays. new_owes g.L.Link.put_gives g.L.Link.take_gives c.args.connect.now c.args.prefetch c.args.link c.in-Ok.conn c.requires.command new
          (subst (λ r. IfOk r IsUnread) c.in-Ok.is c.open_by.ensures.unread),
    )
