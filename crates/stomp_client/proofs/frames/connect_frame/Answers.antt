use Rattle.std.proofs.Common.{codes}
use Rattle.stomp_frame.specs.Frames.{header}
use Rattle.stomp_client.proofs.Headers.{version_unrefused, host_unrefused}
use Rattle.stomp_client.proofs.frames.connect_frame.Goals as goal

pub push-requires : goal.push-requires
push-requires c = rw c.new-frame.ensures version_unrefused

pub push-requires-2 : goal.push-requires-2
push-requires-2 c =
    rw (c.in_ok-push.ensures.ok, c.new-frame.ensures) (host_unrefused (header (codes "accept-version") (codes "1.2")))
