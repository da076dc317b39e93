use Rattle.std.proofs.lemmas.Str.Pattern.{split_parts}
use Rattle.schedule_text.proofs.words.cut.Goals as goal

pub returns : goal.returns
returns c = split_parts c.args.separator c.args.text.now _ c.split_once.ensures.cases c.requires
