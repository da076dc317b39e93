use Rattle.shared_endpoint.specs.Token.{scout_number}
use Rattle.service_workers.proofs.Further.{on_join}
use Rattle.service_workers.proofs.Truth.{still_sound}
use Rattle.service_workers.proofs.run.Run.relay.Goals as goal

pub loop-preserved : goal.loop-preserved
loop-preserved g c = (
  c.take_turn.ensures.scout,
  on_join g.K.Keep.seen g.H.Handler.service scout_number _ _ _ c.loop.invariant.1 c.take_turn.ensures.goes_on,
  still_sound g.K.Keep.seen g.H.Handler.service scout_number g.N.Naming.sound _ _ c.take_turn.ensures.goes_on
      c.loop.invariant.2,
)

pub loop-preserved-then-not-take_turn : goal.loop-preserved-then-not-take_turn
loop-preserved-then-not-take_turn g c = (
  c.take_turn.ensures.scout,
  on_join g.K.Keep.seen g.H.Handler.service scout_number _ _ _ c.loop.invariant.1 c.take_turn.ensures.goes_on,
  still_sound g.K.Keep.seen g.H.Handler.service scout_number g.N.Naming.sound _ _ c.take_turn.ensures.goes_on
      c.loop.invariant.2,
)
