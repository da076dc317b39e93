use Rattle.trade.specs.Stocks.{stock_reactions}
use Rattle.trade.specs.Sound.{IsStockSound}
use Rattle.activities.proofs.Invariants.{invariant-always}
use Rattle.trade.proofs.Sound.{stocks-invariant}
use Rattle.trade.proofs.laws.stocks_stay_sound.Goals as goal

pub returns-clause-kept : goal.returns-clause-kept
returns-clause-kept c = stocks-invariant

pub returns-clause-always : goal.returns-clause-always
returns-clause-always c = invariant-always stock_reactions IsStockSound stocks-invariant
