use Rattle.endpoint.specs.Calls.{OfLetter}
use Rattle.laws_services.proofs.Contracts.{ingest_does, ingest_takes, ingest_handled, ingest_repeated}
use Rattle.laws_services.proofs.calls.ingests_are_steps.Goals as goal

pub returns-clause-does : goal.returns-clause-does
returns-clause-does g c = λ old new written l result.
    ingest_does g.K.Keep.seen g.met.K.Keep.sound g.H.Handler.service old new OfLetter l l.pair.to written result

pub returns-clause-takes : goal.returns-clause-takes
returns-clause-takes g c = λ old new l answer.
    ingest_takes g.K.Keep.seen g.met.K.Keep.sound g.H.Handler.service old new OfLetter l l.pair.to answer

pub returns-clause-handled : goal.returns-clause-handled
returns-clause-handled g c = λ old new l position.
    ingest_handled g.K.Keep.seen g.met.K.Keep.sound g.H.Handler.service old new OfLetter l l.pair.to position

pub returns-clause-repeated : goal.returns-clause-repeated
returns-clause-repeated g c = λ old new l handled count.
    ingest_repeated g.K.Keep.seen g.met.K.Keep.sound g.H.Handler.service old new OfLetter l l.pair.to handled count
