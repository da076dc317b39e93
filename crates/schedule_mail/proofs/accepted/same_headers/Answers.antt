use Rattle.std.proofs.Common.{sym}
use Rattle.schedule_mail.proofs.Sameness.{headers_long}
use Rattle.schedule_mail.proofs.accepted.same_headers.Goals as goal

pub returns-then-one-other : goal.returns-then-one-other
returns-then-one-other c = sym (headers_long c.args.one.now c.args.other.now c.if-one-other.true)
