use Rattle.std.proofs.Common.{sym, ◌∙◌}
use Rattle.broker_core.proofs.perform.ack.Goals as goal

pub returns-in-Some-unanswered : goal.returns-in-Some-unanswered
returns-in-Some-unanswered g c =
    rw (c.in-Some.is, sym c.has.ensures ∙ c.if-not-has.false, sym c.unanswered.ensures ∙ c.in-Some-unanswered.is)
    (c.keep.ensures c.args.queues.now)
