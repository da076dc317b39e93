use Rattle.std.proofs.Common.{rules}
use Rattle.base.specs.declared.limits.TheConstants.{MAX_QUEUED}
use Rattle.schedule_mail.proofs.Sessions.{answer_keeps, answer_there}
use Rattle.schedule_mail.proofs.mail.Mail.feed.Goals as goal

pub returns-clause-feeds : goal.returns-clause-feeds
returns-clause-feeds c = search rules

pub returns-clause-sessions : goal.returns-clause-sessions
returns-clause-sessions c =
    answer_keeps MAX_QUEUED c.args.session c.args.self.now.broker c.feed.new.self c.args.piece.now c.feed.result
    (returns-clause-feeds c)

pub returns-clause-there : goal.returns-clause-there
returns-clause-there c =
    answer_there MAX_QUEUED c.args.session c.args.self.now.broker c.feed.new.self c.args.piece.now c.feed.result
    (returns-clause-feeds c)
