use Rattle.reception.proofs.Composing.{matches_behind, stays_match, drains_found}
use Rattle.reception.proofs.draining.drain.Goals as goal

pub returns-in-Ok-Some-clause-matches : goal.returns-in-Ok-Some-clause-matches
returns-in-Ok-Some-clause-matches g c =
    matches_behind g.K.Keep.seen g.H.Handler.service c.args.endpoint.now c.drainable.new.self c.drain_pair.new.endpoint
    (stays_match g.K.Keep.seen g.H.Handler.service c.args.endpoint.now c.drainable.new.self c.drainable.ensures.stays)
    c.drain_pair.ensures.doubt c.drain_pair.ensures.matches

pub returns-in-Ok-Some-clause-comes : goal.returns-in-Ok-Some-clause-comes
returns-in-Ok-Some-clause-comes g c =
    drains_found g.K.Keep.seen g.met.K.Keep.sound g.H.Handler.service c.args.endpoint.now c.drainable.new.self
    c.drain_pair.new.endpoint
    c.in-Ok-Some.pair c.drain_pair.result (rw c.in-Ok-Some.field-0-is at c.in-Ok-Some.ensures.read)
    c.drainable.ensures.stays
    c.drain_pair.ensures.doubt c.drain_pair.ensures.comes
