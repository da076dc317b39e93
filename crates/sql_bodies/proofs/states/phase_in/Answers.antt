use Rattle.sql_bodies.proofs.Words.{phase_read}
use Rattle.sql_bodies.proofs.states.phase_in.Goals as goal

pub returns : goal.returns
returns c = phase_read c.args.word.now c.of_word.result c.of_word.ensures
