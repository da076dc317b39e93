use Rattle.std.proofs.Common.{ap, ◌∙◌}
use Rattle.broker_index.specs.Aged.{are_before}
use Rattle.broker_index.proofs.Aged.{are_before-filter}
use Rattle.broker_index.proofs.subscribers.Subscribers.remove.Goals as goal

pub invariant_of-self : goal.invariant_of-self
invariant_of-self c = (
  c.take_value.ensures.rising,
  ap (are_before c.self.inside.next) c.take_value.ensures.taken
      ∙ are_before-filter c.self.inside.next _ _ c.self.invariant.1,
)
