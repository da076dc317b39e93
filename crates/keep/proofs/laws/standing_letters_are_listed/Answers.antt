use Rattle.keep.proofs.PageLaws.{standing_letters_are_listed}
use Rattle.keep.proofs.laws.standing_letters_are_listed.Goals as goal

pub returns : goal.returns
returns c = standing_letters_are_listed
