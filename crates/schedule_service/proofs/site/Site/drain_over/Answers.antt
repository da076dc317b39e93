use Rattle.schedule_service.proofs.Going.{held_comes}
use Rattle.schedule_service.proofs.site.Site.drain_over.Goals as goal

pub returns-clause-comes : goal.returns-clause-comes
returns-clause-comes g c =
    held_comes g.K.Keep.seen c.args.self.now.endpoint c.drain-answer.new.endpoint c.meet.new.self.endpoint
    g.H.Handler.service c.drain_told.result c.drain-answer.result c.drain_told.ensures c.meet.ensures.store
    c.drain-answer.ensures.comes
