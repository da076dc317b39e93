use Rattle.std.proofs.Common.{refl, ap, rules}
use Rattle.std.specs.Prelude.{map}
use Rattle.schedule_io.specs.Ends.{Writers}
use Rattle.schedule_io.proofs.Endings.{asked, refused, refused_status, told}
use Rattle.schedule_io.proofs.words.ask.Goals as goal

pub returns-in-Ok : goal.returns-in-Ok
returns-in-Ok g c = asked _ refl _ _ _ c.in-Ok.choice c.in-Ok.ensures refl

pub returns-then-eq : goal.returns-then-eq
returns-then-eq g c =
    let said = map g.T.AsStr.text c.args.words.now in
    let old : Writers = record { out = g.W.Write.contents c.args.out.now; err = g.E.Write.contents c.args.err.now } in
    let new : Writers = record { out = old.out; err = g.E.Write.contents c.tell_fault.new.err } in
    refused _ refl said old new c.in-Err.error c.in-Err.ensures c.status_of.result
    (refused_status old new c.tell_fault.result c.status_of.result c.status_of.ensures refl
    c.tell_fault.ensures.told c.tell_fault.ensures.untold)

pub returns : goal.returns
returns g c =
    let said = map g.T.AsStr.text c.args.words.now in
    let old : Writers = record { out = g.W.Write.contents c.args.out.now; err = g.E.Write.contents c.args.err.now } in
    let new : Writers = record {
      out = g.W.Write.contents c.tell_words.new.out;
      err = g.E.Write.contents c.tell_words.new.err;
    } in
    told _ refl said old new c.in-Err.error c.in-Err.ensures (λ refused. search rules) c.status_of-2.result
    c.tell_words.result c.status_of-2.ensures c.tell_words.ensures.status
    (λ asked. ap g.E.Write.contents (c.tell_words.ensures.request asked))
    (λ asked. ap g.W.Write.contents (c.tell_words.ensures.fault asked))
