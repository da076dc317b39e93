use Rattle.std.proofs.Common.{sym}
use Rattle.schedule_mail.specs.Texts.{told_full, told_used}
use Rattle.schedule_mail.proofs.Sameness.{again_is, again_none, told_is, told_is_not}
use Rattle.schedule_mail.proofs.accepted.answer_of.Goals as goal

pub returns-in-Some : goal.returns-in-Some
returns-in-Some c = again_is c.args.sent.now c.args.accepted.now c.in-Some.number (sym c.in-Some.ensures)

pub returns-then-eq : goal.returns-then-eq
returns-then-eq c = (
  λ m. again_none c.args.sent.now c.args.accepted.now m (sym c.in-None.ensures),
  told_is c.args.out.now c.as_slice.result.now c.args.texts.now.full.items told_full c.if-eq.ensures
      c.as_slice.ensures.value
      c.requires.is_full,
)

pub returns-then-eq-2 : goal.returns-then-eq-2
returns-then-eq-2 c = (
  λ m. again_none c.args.sent.now c.args.accepted.now m (sym c.in-None.ensures),
  told_is c.args.out.now c.as_slice-2.result.now c.args.texts.now.used.items told_used c.if-eq-2.ensures
      c.as_slice-2.ensures.value
      c.requires.is_used,
)

pub returns : goal.returns
returns c = (
  λ m. again_none c.args.sent.now c.args.accepted.now m (sym c.in-None.ensures),
  told_is_not c.args.out.now c.as_slice.result.now c.args.texts.now.full.items told_full c.if-eq.ensures
      c.as_slice.ensures.value
      c.requires.is_full,
  told_is_not c.args.out.now c.as_slice-2.result.now c.args.texts.now.used.items told_used c.if-eq-2.ensures
      c.as_slice-2.ensures.value
      c.requires.is_used,
)
