use Rattle.std.proofs.Common.{[]}
use Rattle.reception.proofs.Spelling.{no_text}
use Rattle.reception.proofs.texts.text_of.Goals as goal

pub returns : goal.returns
returns c = c.in_ok-add.ensures [] (rw c.new-text.ensures.items no_text)
