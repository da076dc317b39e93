use Rattle.std.proofs.Common.{◌<◌, ◌≡◌, take, arith, ap, ◌∙◌, subst}
use Rattle.std.proofs.lemmas.Result.{err_from_is_err_and}
use Rattle.envelope.specs.declared.message.Letter.{Letter}
use Rattle.base.specs.declared.limits.TheConstants.{MAX_NUMBER}
use Rattle.outbox.specs.Numbering.{letter_to}
use Rattle.outbox.specs.Numbering.{NumbersPass}
use Rattle.keep.proofs.Arms.{still_armed}
use Rattle.outbox.proofs.Letters.{read_later}
use Rattle.outbox.proofs.Numbering.{items_more, fits_more, passes_at}
use Rattle.outbox.proofs.outbox.number_outs.Goals as goal

pub loop-at-preserved : goal.loop-at-preserved
loop-at-preserved g c =
    let o = c.index-outs-at.result in
    let outs = c.args.outs.now in
    let e = c.args.entity.now in
    let sent = (g.K.Keep.seen c.args.keep.now).tables.sent in
    let i = c.loop-at.at in
    let early : (g.K.Keep.seen c.number_out.new.keep).doubt ≡ 0
    → (g.K.Keep.seen c.loop-at.keep).doubt ≡ 0 = λ clean. omega (arith, clean, c.number_out.ensures.doubt) in
    let is : (g.K.Keep.seen c.number_out.new.keep).doubt ≡ 0
    → c.in_ok-letter.letter ≡ letter_to sent e (take i outs) o = λ clean.
    (c.in_ok-letter.ensures.clean clean).0.0
    ∙ ap (λ t. letter_to t.sent e (take i outs) o) (c.loop-at.invariant.same (early clean)) in
    record {
      usable = c.in_ok-letter.ensures.call.1;
      counts = c.in_ok-letter.ensures.call.2 ∙ c.loop-at.invariant.counts;
      armed = still_armed (g.K.Keep.seen c.args.keep.now).armed (g.K.Keep.seen c.loop-at.keep).armed
          (g.K.Keep.seen c.number_out.new.keep).armed c.loop-at.invariant.armed c.in_ok-letter.ensures.call.3;
      doubt = omega (arith, c.loop-at.invariant.doubt, c.number_out.ensures.doubt);
      same = λ clean. (c.in_ok-letter.ensures.clean clean).1 ∙ c.loop-at.invariant.same (early clean);
      items = λ clean. c.in_ok-push.ensures.items
          ∙ items_more sent e c.loop-at.changes.items _ outs i o c.in_ok-letter.letter c.loop-at-test.true
          c.index-outs-at.is (is clean)
          (c.loop-at.invariant.items (early clean));
      fits = λ clean. fits_more sent e outs i o c.in_ok-letter.letter.number c.loop-at-test.true c.index-outs-at.is
          (c.in_ok-letter.ensures.clean clean).0.1 (ap (λ (l : Letter). l.number) (is clean))
          (c.loop-at.invariant.fits (early clean));
    }

pub returns-in_err-letter : goal.returns-in_err-letter
returns-in_err-letter g c =
    let p = err_from_is_err_and c.from_residual.result c.from_residual.ensures.1 in
    let o = c.index-outs-at.result in
    let outs = c.args.outs.now in
    let e = c.args.entity.now in
    let i = c.loop-at.at in
    rw (p.1, p.2) (read_later g.K.Keep.seen c.args.keep.now c.loop-at.keep c.number_out.new.keep
    (c.requires.usable, c.loop-at.invariant.usable, c.loop-at.invariant.counts, c.loop-at.invariant.armed)
    c.loop-at.invariant.doubt
    c.loop-at.invariant.same
    (λ t _. MAX_NUMBER < (letter_to t.sent e (take i outs) o).number) (λ t _. NumbersPass t.sent e outs)
    c.in_err-letter.field-0.0
    (λ early h. let sent = (g.K.Keep.seen c.args.keep.now).tables.sent in
    passes_at sent e outs i o c.loop-at-test.true c.index-outs-at.is
    (subst (λ t. MAX_NUMBER < (letter_to t.sent e (take i outs) o).number) (c.loop-at.invariant.same early) h))
    c.in_err-letter.ensures)
