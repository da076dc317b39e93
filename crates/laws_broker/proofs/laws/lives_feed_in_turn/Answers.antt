use Rattle.laws_broker.proofs.Streams.{fed_in_turn}
use Rattle.laws_broker.proofs.laws.lives_feed_in_turn.Goals as goal

pub returns : goal.returns
returns c = fed_in_turn
