use Rattle.relay.proofs.Knowing.{found_known}
use Rattle.relay.proofs.laws.a_reopening_is_known.Goals as goal

pub returns : goal.returns
returns g c r old new clean finds good known =
    found_known g.H.Handler.service r g.K.Keep.seen old new clean finds good known
