use Rattle.std.proofs.Common.{◌∙◌}
use Rattle.marks.proofs.Sharing.{opens}
use Rattle.marks.proofs.marks.Marks.open.Goals as goal

pub of_words-requires : goal.of_words-requires
of_words-requires c = opens _ _ _ (c.as_slice.ensures.value ∙ c.in_ok-zeros.ensures)
