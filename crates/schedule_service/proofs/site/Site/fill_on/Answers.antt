use Rattle.schedule_service.proofs.Sending.{sends_on}
use Rattle.schedule_service.proofs.site.Site.fill_on.Goals as goal

pub returns-clause-did : goal.returns-clause-did
returns-clause-did g c =
    sends_on g.K.Keep.seen g.H.Handler.service c.args.number c.args.limit c.args.channel c.fill_told.result
    c.args.self.now c.args.mail.now c.meet.new.self c.meet.new.mail c.resume-answer.new.self c.resume-answer.new.client
    c.resume-answer.new.endpoint c.resume-answer.result c.fill_fate.result c.resume-answer.ensures.idle
    c.resume-answer.ensures.read
    c.resume-answer.ensures.stays c.resume-answer.ensures.unused c.resume-answer.ensures.fills c.resume-answer.ensures.knows
    c.fill_told.ensures
    c.fill_fate.ensures c.meet.ensures.store c.meet.ensures.meets
