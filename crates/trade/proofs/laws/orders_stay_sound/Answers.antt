use Rattle.trade.specs.Orders.{order_reactions}
use Rattle.trade.specs.Sound.{IsOrderSound}
use Rattle.activities.proofs.Invariants.{invariant-always}
use Rattle.trade.proofs.Sound.{orders-invariant}
use Rattle.trade.proofs.laws.orders_stay_sound.Goals as goal

pub returns-clause-kept : goal.returns-clause-kept
returns-clause-kept c = orders-invariant

pub returns-clause-always : goal.returns-clause-always
returns-clause-always c = invariant-always order_reactions IsOrderSound orders-invariant
