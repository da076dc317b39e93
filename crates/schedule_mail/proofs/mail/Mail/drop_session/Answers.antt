use Rattle.std.proofs.Common.{rules, ap, ◌∙◌}
use Rattle.schedule_mail.specs.Mails.{Mail}
use Rattle.schedule_mail.specs.Sessions.{has_session}
use Rattle.schedule_mail.proofs.Sessions.{drop_keeps, drop_gone}
use Rattle.schedule_mail.proofs.mail.Mail.drop_session.Goals as goal

pub returns-clause-dropped : goal.returns-clause-dropped
returns-clause-dropped c = search rules

pub returns-clause-sessions : goal.returns-clause-sessions
returns-clause-sessions c = λ n apart. ap (λ (o : Mail). has_session n o.broker) (returns-clause-dropped c)
    ∙ drop_keeps c.args.session c.args.self.now.broker n apart

pub returns-clause-gone : goal.returns-clause-gone
returns-clause-gone c = ap (λ (o : Mail). has_session c.args.session o.broker) (returns-clause-dropped c)
    ∙ drop_gone c.args.session c.args.self.now.broker
