use Rattle.keep.proofs.PageLaws.{pages_join}
use Rattle.keep.proofs.laws.pages_join.Goals as goal

pub returns : goal.returns
returns c = pages_join
