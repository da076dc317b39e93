use Rattle.stomp_client.proofs.Headers.{version_unrefused}
use Rattle.stomp_client.proofs.frames.connect_start.Goals as goal

pub push-requires : goal.push-requires
push-requires c = rw c.new-frame.ensures version_unrefused
