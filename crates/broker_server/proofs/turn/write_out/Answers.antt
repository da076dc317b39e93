use Rattle.broker_server.proofs.Turning.{written_out}
use Rattle.broker_server.proofs.turn.write_out.Goals as goal

pub returns : goal.returns
returns g c = written_out _ _ _ _ _ _ _ _ c.out.ensures c.taken.ensures c.in_ok-count.ensures
