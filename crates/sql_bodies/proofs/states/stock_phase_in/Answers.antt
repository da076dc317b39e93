use Rattle.sql_bodies.proofs.Words.{stock_phase_read}
use Rattle.sql_bodies.proofs.states.stock_phase_in.Goals as goal

pub returns : goal.returns
returns c = stock_phase_read c.args.word.now c.of_stock_word.result c.of_stock_word.ensures
