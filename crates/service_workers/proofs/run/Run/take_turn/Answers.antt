use Rattle.shared_endpoint.specs.Token.{scout_number}
use Rattle.service_workers.proofs.Further.{on_join}
use Rattle.service_workers.proofs.run.Run.take_turn.Goals as goal

pub returns-then-not-count_vain-clause-goes_on : goal.returns-then-not-count_vain-clause-goes_on
returns-then-not-count_vain-clause-goes_on g c =
    on_join g.K.Keep.seen g.H.Handler.service scout_number _ _ _ c.mark-rows.ensures.goes_on
    c.send_news-has_news.ensures.goes_on

pub returns-then-stock-clause-goes_on : goal.returns-then-stock-clause-goes_on
returns-then-stock-clause-goes_on g c =
    let join = on_join g.K.Keep.seen g.H.Handler.service scout_number in
    join _ _ _ (join _ _ _ (join _ _ _ (join _ _ _ c.mark-rows.ensures.goes_on c.send_news-has_news.ensures.goes_on)
    c.take_turn_of-order.ensures.goes_on) c.take_turn_of-stock.ensures.goes_on) c.take_turn_of.ensures.goes_on

pub returns-else-stock-clause-goes_on : goal.returns-else-stock-clause-goes_on
returns-else-stock-clause-goes_on g c =
    let join = on_join g.K.Keep.seen g.H.Handler.service scout_number in
    join _ _ _ (join _ _ _ (join _ _ _ (join _ _ _ c.mark-rows.ensures.goes_on c.send_news-has_news.ensures.goes_on)
    c.take_turn_of-order.ensures.goes_on) c.take_turn_of-stock.ensures.goes_on) c.take_turn_of.ensures.goes_on
