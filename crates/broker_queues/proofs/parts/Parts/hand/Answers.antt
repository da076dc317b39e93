use Rattle.std.proofs.Common.{sym, ap, ◌∙◌}
use Rattle.broker_queues.specs.Parts.Choosing.{is_auto_of}
use Rattle.broker_queues.proofs.parts.Parts.hand.Goals as goal

pub returns-then-is_auto_at-clause-hands : goal.returns-then-is_auto_at-clause-hands
returns-then-is_auto_at-clause-hands g c accepted k s is p =
    c.hand_auto.ensures.hands accepted k s is p (sym (ap is_auto_of p.sits) ∙ sym c.is_auto_at.ensures
    ∙ c.if-is_auto_at.true)

pub returns-else-is_auto_at-clause-hands : goal.returns-else-is_auto_at-clause-hands
returns-else-is_auto_at-clause-hands g c accepted k s is p =
    c.hand_out.ensures.hands accepted k s is p (sym (ap is_auto_of p.sits) ∙ sym c.is_auto_at.ensures
    ∙ c.if-is_auto_at.false)
