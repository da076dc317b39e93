use Rattle.reception.proofs.Composing.{settle_answered}
use Rattle.reception.proofs.frames.settle.Goals as goal

pub returns-clause-used : goal.returns-clause-used
returns-clause-used g c = settle_answered g.K.Keep.seen g.H.Handler.service.kind c.args.prepared.now.message
    c.args.endpoint.now c.settle.new.self c.args.prepared.now.pair c.args.prepared.now.number c.requires c.settle.result
    c.settle.ensures.settle.call.0 c.settle.ensures.settle.call.1
