use Rattle.stomp_session.proofs.Accepting.{no_memory_is_wanted}
use Rattle.stomp_session.proofs.laws.accepting_wants_no_memory.Goals as goal

pub returns : goal.returns
returns c = no_memory_is_wanted
