use Rattle.std.proofs.Common.{[], refl}
use Rattle.receipts.specs.Books.{new_book}
use Rattle.receipts.proofs.Giving.{given_opened}
use Rattle.receipts.proofs.laws.what_is_given_was_opened.Goals as goal

pub returns : goal.returns
returns g c = λ calls new leads. given_opened calls [] new_book new tt refl leads
