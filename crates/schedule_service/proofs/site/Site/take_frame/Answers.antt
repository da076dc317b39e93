use Rattle.schedule_service.proofs.Going.{frame_comes}
use Rattle.schedule_service.proofs.site.Site.take_frame.Goals as goal

pub returns-clause-comes : goal.returns-clause-comes
returns-clause-comes g c =
    frame_comes g.K.Keep.seen c.args.self.now.endpoint c.receive-answer.new.endpoint c.meet.new.self.endpoint
    g.H.Handler.service c.taken_told.result c.args.frame c.receive-answer.result c.taken_told.ensures
    c.meet.ensures.store
    c.receive-answer.ensures.comes
