use Rattle.laws_broker.proofs.Recalling.{brokers_speak}
use Rattle.laws_broker.proofs.texts.what_is_written_is_frames.Goals as goal

pub returns : goal.returns
returns c = brokers_speak
