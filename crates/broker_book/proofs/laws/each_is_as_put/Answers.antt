use Rattle.broker_book.proofs.AsPut.{each_as_put}
use Rattle.broker_book.proofs.laws.each_is_as_put.Goals as goal

pub returns : goal.returns
returns c = each_as_put
