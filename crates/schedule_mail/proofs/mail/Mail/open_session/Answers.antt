use Rattle.std.proofs.Common.{rules}
use Rattle.schedule_mail.proofs.Sessions.{open_answer_keeps}
use Rattle.schedule_mail.proofs.mail.Mail.open_session.Goals as goal

pub returns-clause-opens : goal.returns-clause-opens
returns-clause-opens c = search rules

pub returns-clause-sessions : goal.returns-clause-sessions
returns-clause-sessions c =
    open_answer_keeps c.args.self.now.broker c.open.new.self c.open.result (returns-clause-opens c)
