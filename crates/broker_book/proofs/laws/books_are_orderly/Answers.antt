use Rattle.broker_book.proofs.Orderly.{books_orderly}
use Rattle.broker_book.proofs.laws.books_are_orderly.Goals as goal

pub returns : goal.returns
returns c = books_orderly
