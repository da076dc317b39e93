use Rattle.reception.proofs.Composing.{letter_answered}
use Rattle.reception.proofs.frames.ingest.Goals as goal

pub returns-clause-used : goal.returns-clause-used
returns-clause-used g c = letter_answered g.K.Keep.seen g.H.Handler.service.kind c.args.prepared.now.message
    c.args.endpoint.now c.ingest.new.self c.args.prepared.now.letter c.requires c.ingest.result
    c.ingest.ensures.ingest.call.0 c.ingest.ensures.ingest.call.1
