use Rattle.base.specs.Order.{entity_cmp-total, pair_cmp-total}
use Rattle.base.proofs.laws.orders_are_total.Goals as goal

pub returns : goal.returns
returns c = record { entities = entity_cmp-total; pairs = pair_cmp-total }
