use Rattle.reception.proofs.Composing.{matches_behind, stays_match}
use Rattle.reception.proofs.draining.drain_pair.Goals as goal

pub returns-in-Ok-Some-clause-matches : goal.returns-in-Ok-Some-clause-matches
returns-in-Ok-Some-clause-matches g c =
    matches_behind g.K.Keep.seen g.H.Handler.service c.args.endpoint.now c.handled.new.self c.drain_held.new.self
    (stays_match g.K.Keep.seen g.H.Handler.service c.args.endpoint.now c.handled.new.self c.handled.ensures.stays)
    c.drain_held.ensures.drain.doubt c.drain_held.ensures.matches

pub returns-in-Ok-None-clause-matches : goal.returns-in-Ok-None-clause-matches
returns-in-Ok-None-clause-matches g c =
    matches_behind g.K.Keep.seen g.H.Handler.service c.args.endpoint.now c.handled.new.self c.drain_held.new.self
    (stays_match g.K.Keep.seen g.H.Handler.service c.args.endpoint.now c.handled.new.self c.handled.ensures.stays)
    c.drain_held.ensures.drain.doubt c.drain_held.ensures.matches

pub returns-in-Err-drain_held-clause-matches : goal.returns-in-Err-drain_held-clause-matches
returns-in-Err-drain_held-clause-matches g c =
    matches_behind g.K.Keep.seen g.H.Handler.service c.args.endpoint.now c.handled.new.self c.drain_held.new.self
    (stays_match g.K.Keep.seen g.H.Handler.service c.args.endpoint.now c.handled.new.self c.handled.ensures.stays)
    c.drain_held.ensures.drain.doubt c.drain_held.ensures.matches
