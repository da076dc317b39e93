use Rattle.receipts.proofs.Giving.{closed_once}
use Rattle.receipts.proofs.laws.a_number_is_closed_once.Goals as goal

pub returns : goal.returns
returns g c = closed_once
