use Rattle.std.proofs.Common.{subst, rules}
use Rattle.endpoint.specs.Arrivals.{DrainMay}
use Rattle.endpoint.specs.Calls.{DoesDeed, KeepsTables, OfHeldLetter}
use Rattle.endpoint.proofs.Finishing.{works_does}
use Rattle.endpoint.proofs.Refusals.{keeps_tables}
use Rattle.endpoint.proofs.endpoint.WindowedEndpoint.drain_held.Goals as goal

pub returns-clause-drain : goal.returns-clause-drain
returns-clause-drain g c =
    let seen = g.K.Keep.seen in let ahead =
    g.W.Window.ahead in let service = g.H.Handler.service in let p = c.args.pair.now in let new =
    c.take_held.new.keep in
    subst (λ k. DoesDeed seen k new ahead service OfHeldLetter p.to (DrainMay service p) c.take_held.result)
    c.self.view_is
    (works_does seen ahead service c.self.inside.keep new p.to (search rules) OfHeldLetter (λ h. h) (DrainMay service p)
    c.take_held.result c.take_held.ensures)

pub returns-clause-unchanged : goal.returns-clause-unchanged
returns-clause-unchanged g c =
    let seen = g.K.Keep.seen in let keep = c.self.inside.keep in let new = c.take_held.new.keep in
    let w = c.take_held.ensures in
    subst (λ k. KeepsTables seen k new c.take_held.result) c.self.view_is
    (keeps_tables seen keep new (g.met.K.Keep.sound keep) (g.met.K.Keep.sound new) OfHeldLetter
    c.take_held.result w.call w.doubt (λ clean. (w.clean clean).0))
