use Rattle.std.proofs.Common.{◌≡◌, refl, sym, ◌∙◌, Some, None}
use Rattle.endpoint.specs.declared.answer.Ingested.TheVariants as ingested
use Rattle.endpoint.specs.Arrivals.{IngestMayWithin}
use Rattle.endpoint.specs.Calls.{OfLetter}
use Rattle.endpoint.specs.Deeds.{Holds}
use Rattle.endpoint.specs.Parts.Receiving.{IsEarly, IsMissing}
use Rattle.endpoint.proofs.Doing.{read_answers, read_then}
use Rattle.endpoint.proofs.Finishing.{hold_did}
use Rattle.endpoint.proofs.receiving.hold_letter.Goals as goal

pub returns-in-Some : goal.returns-in-Some
returns-in-Some g c =
    let ahead = g.W.Window.ahead in let service = g.H.Handler.service in let l = c.args.letter.now in
    read_answers g.K.Keep.seen g.met.K.Keep.sound ahead service c.args.keep.now c.read_held.new.keep OfLetter
    (IsEarly ahead l)
    (IngestMayWithin ahead service l)
    (λ t m. m ≡ t.held l.pair l.number) c.in_ok-read_held.field-0 ingested.Held (Holds l)
    (λ t good early gives. (
      refl,
      hold_did ahead service l c.requires.kind c.get-number.ensures.number.small t good early c.in-Some.field-0
          (sym gives ∙ c.in-Some.is),
    ))
    c.in_ok-read_held.ensures

pub returns-in-None : goal.returns-in-None
returns-in-None g c =
    let ahead = g.W.Window.ahead in let service = g.H.Handler.service in let l = c.args.letter.now in
    read_then g.K.Keep.seen g.met.K.Keep.sound ahead service c.args.keep.now c.read_held.new.keep c.write_held.new.keep
    OfLetter OfLetter
    (λ f h. h) (λ t. IsEarly ahead l t × IsMissing l t) (IsEarly ahead l) (IngestMayWithin ahead service l)
    (λ t m. m ≡ t.held l.pair l.number) c.in_ok-read_held.field-0 c.write_held.result
    (λ t good early gives. (early, sym gives ∙ c.in-None.is)) c.in_ok-read_held.ensures c.write_held.ensures
