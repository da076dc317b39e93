use Rattle.std.proofs.Common.{rules}
use Rattle.schedule_mail.proofs.Sessions.{dispatch_keeps}
use Rattle.schedule_mail.proofs.mail.Mail.dispatch.Goals as goal

pub returns-clause-deals : goal.returns-clause-deals
returns-clause-deals c = search rules

pub returns-clause-sessions : goal.returns-clause-sessions
returns-clause-sessions c =
    dispatch_keeps c.args.self.now.broker c.dispatch.new.self c.dispatch.result (returns-clause-deals c)
