use Rattle.std.proofs.Common.{None}
use Rattle.schedule_service.specs.SiteSteps.{TakesOne}
use Rattle.schedule_service.proofs.Doing.{takes_again}
use Rattle.schedule_service.proofs.Fates.{does_open}
use Rattle.schedule_service.proofs.site.Site.take.Goals as goal

pub returns-in-Some-clause-did : goal.returns-in-Some-clause-did
returns-in-Some-clause-did g c =
    does_open c.args.number c.take_on.result c.args.self.now c.take_channel.new.self c.args.mail.now c.take_on.new.self
    c.take_on.new.mail
    c.take_channel.result c.in-Some.channel
    (λ x l. TakesOne g.K.Keep.seen g.H.Handler.service c.args.number l c.take_on.result x c.args.mail.now
    c.take_on.new.self c.take_on.new.mail)
    (takes_again g.K.Keep.seen g.H.Handler.service c.args.number None c.in-Some.channel c.take_on.result c.args.self.now
    c.args.mail.now
    c.take_on.new.self c.take_on.new.mail)
    c.in-Some.is c.take_channel.ensures.takes c.take_on.ensures.did
