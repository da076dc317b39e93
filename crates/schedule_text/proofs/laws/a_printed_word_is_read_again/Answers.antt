use Rattle.schedule_text.proofs.Again.{word_again}
use Rattle.schedule_text.proofs.laws.a_printed_word_is_read_again.Goals as goal

pub returns : goal.returns
returns c = word_again
