use Rattle.std.proofs.Common.{subst, Some}
use Rattle.shared_endpoint.specs.Token.{hand_number}
use Rattle.service_workers.specs.Taking.{NoEnvelope}
use Rattle.service_workers.specs.Truth.{DrainedIn}
use Rattle.service_workers.proofs.Further.{on_join}
use Rattle.service_workers.proofs.Taking.{then_nothing}
use Rattle.service_workers.proofs.Truth.{drained_stays, so_tells, still_tells, then_tells}
use Rattle.service_workers.proofs.run.Run.drain.Goals as goal

pub loop-preserved : goal.loop-preserved
loop-preserved g c = (
  c.handle_held.ensures.hand,
  on_join g.K.Keep.seen g.H.Handler.service hand_number _ _ _ c.loop.invariant.1 c.handle_held.ensures.goes_on,
  then_tells g.K.Keep.seen g.H.Handler.service hand_number (DrainedIn g.H.Handler.service c.args.pair.now (Some c.in-Some.number)) _ _ _
      c.loop.invariant.1 c.handle_held.ensures.goes_on
      (so_tells g.K.Keep.seen g.H.Handler.service (DrainedIn g.H.Handler.service c.args.pair.now c.handle_held.result) _
      (λ j h. subst (λ o. DrainedIn g.H.Handler.service c.args.pair.now o j) c.in-Some.is h) _ _ c.handle_held.ensures.told),
  then_nothing g.K.Keep.seen g.H.Handler.service hand_number NoEnvelope _ _ _ c.loop.invariant.1 c.handle_held.ensures.goes_on
      c.loop.invariant.3 c.handle_held.ensures.took,
)

pub returns-in-None-clause-goes_on : goal.returns-in-None-clause-goes_on
returns-in-None-clause-goes_on g c =
    on_join g.K.Keep.seen g.H.Handler.service hand_number _ _ _ c.loop.invariant.1 c.handle_held.ensures.goes_on

pub returns-in-None-clause-told : goal.returns-in-None-clause-told
returns-in-None-clause-told g c = still_tells g.K.Keep.seen g.H.Handler.service hand_number (DrainedIn g.H.Handler.service c.args.pair.now c.loop.last)
    (drained_stays g.H.Handler.service c.args.pair.now c.loop.last) _ _ _ c.loop.invariant.1 c.handle_held.ensures.goes_on
    c.loop.invariant.2

pub returns-in-None-clause-took : goal.returns-in-None-clause-took
returns-in-None-clause-took g c = then_nothing g.K.Keep.seen g.H.Handler.service hand_number NoEnvelope _ _ _ c.loop.invariant.1
    c.handle_held.ensures.goes_on c.loop.invariant.3 c.handle_held.ensures.took
