use Rattle.std.proofs.Common.{None}
use Rattle.schedule_service.specs.SiteSteps.{SendsRows}
use Rattle.schedule_service.proofs.Doing.{sends_again}
use Rattle.schedule_service.proofs.Fates.{does_open}
use Rattle.schedule_service.proofs.site.Site.fill.Goals as goal

pub returns-in-Some-clause-did : goal.returns-in-Some-clause-did
returns-in-Some-clause-did g c =
    does_open c.args.number c.fill_on.result c.args.self.now c.take_channel.new.self c.args.mail.now c.fill_on.new.self
    c.fill_on.new.mail
    c.take_channel.result c.in-Some.channel
    (λ x l. SendsRows g.K.Keep.seen g.H.Handler.service c.args.number c.args.limit l c.fill_on.result x c.args.mail.now
    c.fill_on.new.self c.fill_on.new.mail)
    (sends_again c.args.number None c.in-Some.channel c.fill_on.result c.args.self.now c.args.mail.now
    c.fill_on.new.self c.fill_on.new.mail
    g.K.Keep.seen g.H.Handler.service c.args.limit)
    c.in-Some.is c.take_channel.ensures.takes c.fill_on.ensures.did
