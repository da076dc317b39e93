use Rattle.std.proofs.Common.{Ok, Err, refl, inl}
use Rattle.endpoint.specs.declared.answer.Ingested.TheVariants as ingested
use Rattle.endpoint.specs.Arrivals.{IngestMayWithin}
use Rattle.endpoint.specs.Calls.{OfLetter}
use Rattle.endpoint.specs.Deeds.{Holds}
use Rattle.endpoint.specs.Parts.Receiving.{IsEarly, IsMissing}
use Rattle.endpoint.proofs.Doing.{write_ends}
use Rattle.endpoint.proofs.Finishing.{hold_does, hold_placed}
use Rattle.endpoint.proofs.receiving.write_held.Goals as goal

pub returns-in-Ok : goal.returns-in-Ok
returns-in-Ok g c =
    let ahead = g.W.Window.ahead in let service =
    g.H.Handler.service in let l = c.args.letter.now in let cs = c.in_ok-changes.changes.items in
    write_ends g.K.Keep.seen g.met.K.Keep.sound ahead service c.args.keep.now c.apply_all.new.keep OfLetter
    (λ t. IsEarly ahead l t × IsMissing l t) (IngestMayWithin ahead service l) (λ x. refl) (λ x. inl refl) cs (Holds l)
    ingested.Held
    (Ok c.in-Ok.field-0)
    c.requires.usable (hold_placed ahead service l cs c.in_ok-changes.ensures)
    (hold_does ahead service l c.requires.kind c.get-number.ensures.number.small cs
    c.in_ok-changes.ensures)
    c.in-Ok.ensures

pub returns-in-Err : goal.returns-in-Err
returns-in-Err g c =
    let ahead = g.W.Window.ahead in let service =
    g.H.Handler.service in let l = c.args.letter.now in let cs = c.in_ok-changes.changes.items in
    write_ends g.K.Keep.seen g.met.K.Keep.sound ahead service c.args.keep.now c.apply_all.new.keep OfLetter
    (λ t. IsEarly ahead l t × IsMissing l t) (IngestMayWithin ahead service l) (λ x. refl) (λ x. inl refl) cs (Holds l)
    ingested.Held
    (Err c.in-Err.fault)
    c.requires.usable (hold_placed ahead service l cs c.in_ok-changes.ensures)
    (hold_does ahead service l c.requires.kind c.get-number.ensures.number.small cs
    c.in_ok-changes.ensures)
    c.in-Err.ensures
