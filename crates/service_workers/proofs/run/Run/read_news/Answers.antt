use Rattle.shared_endpoint.specs.Token.{scout_number}
use Rattle.service_workers.specs.Truth.{AreSentIn}
use Rattle.service_workers.proofs.Further.{on_join}
use Rattle.service_workers.proofs.Truth.{any_tells, knows_now, none_sent}
use Rattle.service_workers.proofs.run.Run.read_news.Goals as goal

pub loop-row-init : goal.loop-row-init
loop-row-init g c = record {
  scout = c.journal.ensures.scout;
  goes_on = c.journal.ensures.goes_on;
  told = knows_now g.K.Keep.seen g.H.Handler.service scout_number g.N.Naming.sound
      (AreSentIn g.H.Handler.service.reactions c.new-letters.result.items) _ _ c.journal.ensures.goes_on c.requires.sound
      (any_tells g.K.Keep.seen g.H.Handler.service scout_number
      (AreSentIn g.H.Handler.service.reactions c.new-letters.result.items)
      (λ x. none_sent g.H.Handler.service.reactions _ x c.new-letters.ensures.items) _ _ c.journal.ensures.goes_on);
}

pub loop-row-preserved : goal.loop-row-preserved
loop-row-preserved g c = record {
  scout = c.list_letters.ensures.scout;
  goes_on = on_join g.K.Keep.seen g.H.Handler.service scout_number _ _ _ c.loop-row.invariant.goes_on
      c.list_letters.ensures.goes_on;
  told = c.list_letters.ensures.told;
}

pub returns-then-not-list_letters-clause-goes_on :
    goal.returns-then-not-list_letters-clause-goes_on
returns-then-not-list_letters-clause-goes_on g c = on_join g.K.Keep.seen g.H.Handler.service scout_number _ _ _
    c.loop-row.invariant.goes_on c.list_letters.ensures.goes_on
