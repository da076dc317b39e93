use Rattle.shared_endpoint.specs.Token.{scout_number}
use Rattle.service_workers.proofs.Further.{on_join}
use Rattle.service_workers.proofs.Truth.{still_sound}
use Rattle.service_workers.proofs.run.Run.send_all.Goals as goal

pub loop-preserved : goal.loop-preserved
loop-preserved g c = (
  c.send_page.ensures.scout,
  on_join g.K.Keep.seen g.H.Handler.service scout_number _ _ _ c.loop.invariant.1 c.send_page.ensures.goes_on,
  still_sound g.K.Keep.seen g.H.Handler.service scout_number g.N.Naming.sound _ _ c.send_page.ensures.goes_on
      c.loop.invariant.2,
)

pub returns-in-Ends-clause-goes_on : goal.returns-in-Ends-clause-goes_on
returns-in-Ends-clause-goes_on g c =
    on_join g.K.Keep.seen g.H.Handler.service scout_number _ _ _ c.loop.invariant.1 c.send_page.ensures.goes_on

pub returns-in-Cut-clause-goes_on : goal.returns-in-Cut-clause-goes_on
returns-in-Cut-clause-goes_on g c =
    on_join g.K.Keep.seen g.H.Handler.service scout_number _ _ _ c.loop.invariant.1 c.send_page.ensures.goes_on

pub returns-in-Refused-clause-goes_on : goal.returns-in-Refused-clause-goes_on
returns-in-Refused-clause-goes_on g c =
    on_join g.K.Keep.seen g.H.Handler.service scout_number _ _ _ c.loop.invariant.1 c.send_page.ensures.goes_on
