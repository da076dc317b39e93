use Rattle.broker_book.proofs.Known.{deals_known}
use Rattle.broker_book.proofs.laws.deliveries_are_known.Goals as goal

pub returns : goal.returns
returns c = deals_known
