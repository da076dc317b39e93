use Rattle.schedule_service.proofs.Going.{held_comes}
use Rattle.schedule_service.proofs.site.Site.drain_alone.Goals as goal

pub returns-clause-comes : goal.returns-clause-comes
returns-clause-comes g c = held_comes g.K.Keep.seen c.args.self.now.endpoint c.drain_unconnected-answer.new.endpoint
    c.meet_alone.new.self.endpoint
    g.H.Handler.service c.drain_told.result c.drain_unconnected-answer.result c.drain_told.ensures
    c.meet_alone.ensures.store
    c.drain_unconnected-answer.ensures.comes
