use Rattle.broker_book.proofs.Numbers.{each_accepted_once}
use Rattle.broker_book.proofs.laws.each_is_accepted_once.Goals as goal

pub returns : goal.returns
returns c = each_accepted_once
