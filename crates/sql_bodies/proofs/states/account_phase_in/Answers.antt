use Rattle.sql_bodies.proofs.Words.{account_phase_read}
use Rattle.sql_bodies.proofs.states.account_phase_in.Goals as goal

pub returns : goal.returns
returns c = account_phase_read c.args.word.now c.of_account_word.result c.of_account_word.ensures
