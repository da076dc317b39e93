use Rattle.std.proofs.Common.{subst}
use Rattle.endpoint.specs.Calls.{KeepsTables, OfSettle}
use Rattle.endpoint.proofs.Refusals.{keeps_tables}
use Rattle.endpoint.proofs.endpoint.WindowedEndpoint.settle.Goals as goal

pub returns-clause-unchanged : goal.returns-clause-unchanged
returns-clause-unchanged g c =
    let seen = g.K.Keep.seen in let keep = c.self.inside.keep in let new = c.settle.new.keep in
    let w = c.settle.ensures in
    subst (λ k. KeepsTables seen k new c.settle.result) c.self.view_is
    (keeps_tables seen keep new (g.met.K.Keep.sound keep) (g.met.K.Keep.sound new) OfSettle c.settle.result w.call
    w.doubt (λ clean. (w.clean clean).0))
