use Rattle.sql_bodies.proofs.Words.{status_read}
use Rattle.sql_bodies.proofs.states.status_in.Goals as goal

pub returns : goal.returns
returns c = status_read c.args.word.now c.of_word.result c.of_word.ensures
