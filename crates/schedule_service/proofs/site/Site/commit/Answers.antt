use Rattle.schedule_service.proofs.Going.{refused_goes}
use Rattle.schedule_service.specs.SiteSteps.{command_row}
use Rattle.schedule_service.proofs.site.Site.commit.Goals as goal

pub returns-in-Err-clause-comes : goal.returns-in-Err-clause-comes
returns-in-Err-clause-comes g c = refused_goes g.K.Keep.seen c.args.self.now c.after.new.self g.H.Handler.service
    (command_row c.args.asked.now) c.commit_copy.result c.in-Err.fault c.after.result c.commit_copy.new.endpoint
    c.in-Err.is
    c.after.ensures.told c.after.ensures.store c.commit_copy.ensures.comes
