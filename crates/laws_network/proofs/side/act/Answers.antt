use Rattle.std.proofs.Common.{refl}
use Rattle.laws_network.specs.declared.event.Event.TheVariants.{Reopen}
use Rattle.laws_network.specs.declared.event.Outcome.TheVariants.{Reopened}
use Rattle.laws_network.proofs.SideStepping.{finds_steps}
use Rattle.laws_network.proofs.side.act.Goals as goal

pub returns-in-Reopen-clause-steps : goal.returns-in-Reopen-clause-steps
returns-in-Reopen-clause-steps g c = rw c.in-Reopen.is
    (finds_steps g.K.Keep.seen c.args.own.now c.reopen.new.self g.H.Handler.service Reopen (Reopened c.reopen.result)
    c.args.arriving.now
    c.args.post.now c.args.post.now (λ x. refl) (λ x. refl) c.reopen.ensures.finds)
