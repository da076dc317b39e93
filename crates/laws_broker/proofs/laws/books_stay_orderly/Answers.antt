use Rattle.laws_broker.proofs.Accounts.{orderly}
use Rattle.laws_broker.proofs.laws.books_stay_orderly.Goals as goal

pub returns : goal.returns
returns c = orderly
