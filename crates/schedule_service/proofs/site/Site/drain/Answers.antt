use Rattle.std.proofs.Common.{subst}
use Rattle.keep.specs.Failing.{through}
use Rattle.endpoint.specs.Calls.{ComesBy, StillMatches}
use Rattle.schedule_service.specs.Deeds.{HeldMay}
use Rattle.schedule_service.proofs.Doing.{drains_open}
use Rattle.schedule_service.proofs.Going.{comes_goes}
use Rattle.schedule_service.proofs.site.Site.drain.Goals as goal

pub returns-in-Some-clause-did : goal.returns-in-Some-clause-did
returns-in-Some-clause-did g c =
    drains_open g.K.Keep.seen g.H.Handler.service c.args.number c.in-Some.channel c.drain_over.result c.args.self.now
    c.args.mail.now c.drain_over.new.self c.drain_over.new.mail c.take_channel.new.self c.take_channel.result
    c.in-Some.is
    c.take_channel.ensures.takes c.drain_over.ensures.did

-- what was taken out isn't the endpoint
pub returns-in-Some-clause-matches : goal.returns-in-Some-clause-matches
returns-in-Some-clause-matches g c =
    subst (λ e. StillMatches (through g.K.Keep.seen) e c.drain_over.new.self.endpoint g.H.Handler.service)
    c.take_channel.ensures.store c.drain_over.ensures.matches

pub returns-in-Some-clause-comes : goal.returns-in-Some-clause-comes
returns-in-Some-clause-comes g c =
    let service = g.H.Handler.service in
    let may = HeldMay service c.drain_over.result in
    comes_goes g.K.Keep.seen c.args.self.now c.drain_over.new.self service may may (λ x d h. h)
    (subst (λ e. ComesBy (through g.K.Keep.seen) e c.drain_over.new.self.endpoint service may)
    c.take_channel.ensures.store
    c.drain_over.ensures.comes)

pub returns-in-None-clause-comes : goal.returns-in-None-clause-comes
returns-in-None-clause-comes g c =
    let service = g.H.Handler.service in
    let may = HeldMay service c.drain_alone.result in
    comes_goes g.K.Keep.seen c.args.self.now c.drain_alone.new.self service may may (λ x d h. h)
    (subst (λ e. ComesBy (through g.K.Keep.seen) e c.drain_alone.new.self.endpoint service may)
    c.take_channel.ensures.store
    c.drain_alone.ensures.comes)
