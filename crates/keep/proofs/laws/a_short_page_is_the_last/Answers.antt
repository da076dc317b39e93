use Rattle.keep.proofs.PageLaws.{short_page_is_last}
use Rattle.keep.proofs.laws.a_short_page_is_the_last.Goals as goal

pub returns : goal.returns
returns c = short_page_is_last
