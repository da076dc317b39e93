use Rattle.std.proofs.Common.{rules, ap, ◌∙◌}
use Rattle.schedule_mail.specs.Mails.{Mail}
use Rattle.schedule_mail.specs.Sessions.{has_session}
use Rattle.schedule_mail.proofs.Sessions.{taken_keeps}
use Rattle.schedule_mail.proofs.mail.Mail.taken.Goals as goal

pub returns-clause-taken : goal.returns-clause-taken
returns-clause-taken c = search rules

pub returns-clause-sessions : goal.returns-clause-sessions
returns-clause-sessions c = λ n. ap (λ (o : Mail). has_session n o.broker) (returns-clause-taken c)
    ∙ taken_keeps c.args.session c.args.count c.args.self.now.broker n
