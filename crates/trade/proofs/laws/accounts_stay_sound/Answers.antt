use Rattle.trade.specs.Accounts.{account_reactions}
use Rattle.trade.specs.Sound.{IsAccountSound}
use Rattle.activities.proofs.Invariants.{invariant-always}
use Rattle.trade.proofs.Sound.{accounts-invariant}
use Rattle.trade.proofs.laws.accounts_stay_sound.Goals as goal

pub returns-clause-kept : goal.returns-clause-kept
returns-clause-kept c = accounts-invariant

pub returns-clause-always : goal.returns-clause-always
returns-clause-always c = invariant-always account_reactions IsAccountSound accounts-invariant
