use Rattle.std.proofs.lemmas.Str.Pattern.{strip_prefix_char}
use Rattle.schedule_text.proofs.words.without.Goals as goal

pub returns : goal.returns
returns c = strip_prefix_char c.args.letter c.args.text.now _ c.strip_prefix.ensures.cases c.requires
