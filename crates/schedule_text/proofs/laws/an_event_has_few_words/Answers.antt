use Rattle.schedule_text.proofs.Sizes.{event_line_size}
use Rattle.schedule_text.proofs.laws.an_event_has_few_words.Goals as goal

pub returns : goal.returns
returns c = event_line_size
