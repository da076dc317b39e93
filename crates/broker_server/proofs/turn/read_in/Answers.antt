use Rattle.broker_server.proofs.Turning.{read_whole}
use Rattle.broker_server.proofs.turn.read_in.Goals as goal

pub returns-then-count-buffer : goal.returns-then-count-buffer
returns-then-count-buffer g c =
    read_whole _ _ _ _ _ _ _ _ _ _ c.in-Octets.is c.in-Ok.ensures c.in_ok-frames-in-Octets.ensures

pub returns-else-count-buffer : goal.returns-else-count-buffer
returns-else-count-buffer g c =
    read_whole _ _ _ _ _ _ _ _ _ _ c.in-Octets.is c.in-Ok.ensures c.in_ok-frames-in-Octets.ensures
