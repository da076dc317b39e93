use Rattle.std.proofs.Common.{◌+◌, refl, ap, ◌∙◌}
use Rattle.broker_index.specs.Aged.{are_before}
use Rattle.broker_index.proofs.Aged.{are_before-push}
use Rattle.broker_index.proofs.subscribers.Subscribers.push.Goals as goal

pub invariant_of-self-2 : goal.invariant_of-self-2
invariant_of-self-2 c = (
  c.put_value.ensures.rising,
  ap (are_before (c.self.inside.next + 1)) c.in_ok-key.ensures.ok
      ∙ are_before-push c.self.inside.next _ _ c.self.invariant.1 refl,
)
