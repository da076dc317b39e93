use Rattle.shared_endpoint.specs.Token.{scout_number}
use Rattle.service_workers.proofs.Further.{on_join}
use Rattle.service_workers.proofs.run.Run.list_letters.Goals as goal

pub loop-preserved : goal.loop-preserved
loop-preserved g c = record {
  scout = c.read_letters.ensures.scout;
  goes_on = on_join g.K.Keep.seen g.H.Handler.service scout_number _ _ _ c.loop.invariant.goes_on
      c.read_letters.ensures.goes_on;
  told = c.read_letters.ensures.told;
}

pub returns-in-Some-Ends-clause-goes_on : goal.returns-in-Some-Ends-clause-goes_on
returns-in-Some-Ends-clause-goes_on g c = on_join g.K.Keep.seen g.H.Handler.service scout_number _ _ _
    c.loop.invariant.goes_on c.read_letters.ensures.goes_on

pub returns-in-Some-Misses-clause-goes_on : goal.returns-in-Some-Misses-clause-goes_on
returns-in-Some-Misses-clause-goes_on g c = on_join g.K.Keep.seen g.H.Handler.service scout_number _ _ _
    c.loop.invariant.goes_on c.read_letters.ensures.goes_on
