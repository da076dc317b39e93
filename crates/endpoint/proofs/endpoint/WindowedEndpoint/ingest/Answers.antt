use Rattle.std.proofs.Common.{subst, rules}
use Rattle.endpoint.specs.Arrivals.{IngestMayWithin}
use Rattle.endpoint.specs.Calls.{DoesDeed, KeepsTables, OfLetter}
use Rattle.endpoint.proofs.Finishing.{works_does}
use Rattle.endpoint.proofs.Refusals.{keeps_tables}
use Rattle.endpoint.proofs.endpoint.WindowedEndpoint.ingest.Goals as goal

pub returns-clause-ingest : goal.returns-clause-ingest
returns-clause-ingest g c =
    let seen = g.K.Keep.seen in let ahead =
    g.W.Window.ahead in let service = g.H.Handler.service in let l = c.args.letter.now in let new =
    c.take_letter.new.keep in
    subst (λ k. DoesDeed seen k new ahead service OfLetter l.pair.to (IngestMayWithin ahead service l)
    c.take_letter.result)
    c.self.view_is
    (works_does seen ahead service c.self.inside.keep new l.pair.to (search rules) OfLetter (λ h. h)
    (IngestMayWithin ahead service l)
    c.take_letter.result c.take_letter.ensures)

pub returns-clause-unchanged : goal.returns-clause-unchanged
returns-clause-unchanged g c =
    let seen = g.K.Keep.seen in let keep = c.self.inside.keep in let new = c.take_letter.new.keep in
    let w = c.take_letter.ensures in
    subst (λ k. KeepsTables seen k new c.take_letter.result) c.self.view_is
    (keeps_tables seen keep new (g.met.K.Keep.sound keep) (g.met.K.Keep.sound new) OfLetter c.take_letter.result w.call
    w.doubt (λ clean. (w.clean clean).0))
