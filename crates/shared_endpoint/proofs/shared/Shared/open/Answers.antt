use Rattle.shared_endpoint.proofs.Passing.{maker_gives}
use Rattle.shared_endpoint.proofs.shared.Shared.open.Goals as goal

pub give_unseen-requires-clause-may : goal.give_unseen-requires-clause-may
give_unseen-requires-clause-may g c =
    let k = g.K.Keep in
    let h = g.H.Handler in
    maker_gives k.seen h.service g.met.K.Keep.sound _ _ _ c.token-scout.ensures.maker
