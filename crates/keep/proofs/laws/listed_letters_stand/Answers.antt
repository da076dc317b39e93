use Rattle.keep.proofs.PageLaws.{listed_letters_stand}
use Rattle.keep.proofs.laws.listed_letters_stand.Goals as goal

pub returns : goal.returns
returns c = listed_letters_stand
