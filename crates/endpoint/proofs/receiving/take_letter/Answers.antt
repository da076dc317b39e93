use Rattle.std.proofs.Common.{◌≡◌, ◌+◌, ◌<◌, sym, ◌∙◌, arith, subst}
use Rattle.std.specs.Prelude.{⊤}
use Rattle.endpoint.specs.Arrivals.{IngestMayWithin}
use Rattle.endpoint.specs.Calls.{OfLetter, OfHeldLetter}
use Rattle.endpoint.specs.Parts.Receiving.{IsNext, IsEarly}
use Rattle.endpoint.proofs.Doing.{read_then}
use Rattle.endpoint.proofs.Finishing.{held_wider}
use Rattle.endpoint.proofs.receiving.take_letter.Goals as goal

pub returns-in-Next : goal.returns-in-Next
returns-in-Next g c =
    let ahead = g.W.Window.ahead in let service =
    g.H.Handler.service in let l = c.args.letter.now in let of = c.in-Next.ensures in
    read_then g.K.Keep.seen g.met.K.Keep.sound ahead service c.args.keep.now c.read_handled.new.keep
    c.handle_letter.new.keep OfHeldLetter
    OfLetter
    held_wider (IsNext l) (λ _. ⊤) (IngestMayWithin ahead service l) (λ t n. n ≡ t.handled l.pair)
    c.in_ok-handled.handled
    c.handle_letter.result
    (λ t good q gives. omega (arith, of, gives)) c.in_ok-handled.ensures c.handle_letter.ensures

pub returns-in-Early : goal.returns-in-Early
returns-in-Early g c =
    let ahead = g.W.Window.ahead in let service = g.H.Handler.service in let l = c.args.letter.now in
    let far = c.in-Early.ensures.0 in let near = c.in-Early.ensures.1 in
    read_then g.K.Keep.seen g.met.K.Keep.sound ahead service c.args.keep.now c.read_handled.new.keep
    c.hold_letter.new.keep OfLetter
    OfLetter
    (λ f h. h) (IsEarly ahead l) (λ _. ⊤) (IngestMayWithin ahead service l) (λ t n. n ≡ t.handled l.pair)
    c.in_ok-handled.handled
    c.hold_letter.result
    (λ t good q gives. (omega (arith, far, gives), omega (arith, near, gives))) c.in_ok-handled.ensures
    c.hold_letter.ensures
