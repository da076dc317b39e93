use Rattle.std.proofs.Common.{inr, ap, sym, ◌∙◌, subst, Ok, Err}
use Rattle.envelope.specs.Reading.{read_frame}
use Rattle.reception.specs.Prepared.{PreparesFrame}
use Rattle.service_workers.proofs.Replied.{answers_at, carried_at, its_letter, its_settle, letter_replied, settle_replied}
use Rattle.service_workers.proofs.replying.finish_unread.Goals as goal

pub returns-in-Ok-clause-answers : goal.returns-in-Ok-clause-answers
returns-in-Ok-clause-answers c =
    let e = subst (λ p. PreparesFrame c.args.kind c.args.message c.args.client.now c.prepare.new.client (Ok p))
    c.in-Ok-Letter.field-0-is c.in-Ok-Letter.ensures in
    answers_at c.args.kind c.args.message c.in-Ok-Letter.letter.message _ _ _ (Ok c.in-Ok.taken) e.0 e.1
    (c.in-Ok.ensures.answers c.args.kind)

pub returns-in-Ok-clause-replied : goal.returns-in-Ok-clause-replied
returns-in-Ok-clause-replied c = λ x h.
    let e = subst (λ p. PreparesFrame c.args.kind c.args.message c.args.client.now c.prepare.new.client (Ok p))
    c.in-Ok-Letter.field-0-is c.in-Ok-Letter.ensures in
    letter_replied c.args.message c.in-Ok-Letter.letter.letter c.in-Letter.answer (Ok c.in-Ok.taken)
    (ap read_frame (sym e.0) ∙ e.2.carries.1) c.in-Ok.ensures.told x
    (carried_at c.args.message c.args.answer _ x c.in-Letter.is h)

pub returns-in-Err-finish-clause-answers : goal.returns-in-Err-finish-clause-answers
returns-in-Err-finish-clause-answers c =
    let e = subst (λ p. PreparesFrame c.args.kind c.args.message c.args.client.now c.prepare.new.client (Ok p))
    c.in-Ok-Letter.field-0-is c.in-Ok-Letter.ensures in
    answers_at c.args.kind c.args.message c.in-Ok-Letter.letter.message _ _ _ (Err c.in-Err-finish.untaken.fault) e.0 e.1
    (c.in-Err-finish.ensures.answers c.args.kind)

pub returns-in-Settle-clause-answers : goal.returns-in-Settle-clause-answers
returns-in-Settle-clause-answers c =
    let e = subst (λ p. PreparesFrame c.args.kind c.args.message c.args.client.now c.prepare.new.client (Ok p))
    c.in-Ok-Settle.field-0-is c.in-Ok-Settle.ensures in
    answers_at c.args.kind c.args.message c.in-Ok-Settle.settle.message _ _ _ c.finish-in-Settle.result e.0 e.1
    (c.finish-in-Settle.ensures.answers c.args.kind)

pub returns-in-Ok-clause-told : goal.returns-in-Ok-clause-told
returns-in-Ok-clause-told c =
    let e = subst (λ p. PreparesFrame c.args.kind c.args.message c.args.client.now c.prepare.new.client (Ok p))
    c.in-Ok-Letter.field-0-is c.in-Ok-Letter.ensures in
    inr (its_letter c.args.message c.args.answer c.in-Ok-Letter.letter.letter c.in-Letter.answer (Ok c.in-Ok.taken)
    c.in-Letter.is
    (ap read_frame (sym e.0) ∙ e.2.carries.1) c.in-Ok.ensures.told)

pub returns-in-Err-finish-clause-told : goal.returns-in-Err-finish-clause-told
returns-in-Err-finish-clause-told c =
    let e = subst (λ p. PreparesFrame c.args.kind c.args.message c.args.client.now c.prepare.new.client (Ok p))
    c.in-Ok-Letter.field-0-is c.in-Ok-Letter.ensures in
    inr (its_letter c.args.message c.args.answer c.in-Ok-Letter.letter.letter c.in-Letter.answer
    (Err c.in-Err-finish.untaken.fault) c.in-Letter.is
    (ap read_frame (sym e.0) ∙ e.2.carries.1) c.in-Err-finish.ensures.told)

pub returns-in-Settle-clause-told : goal.returns-in-Settle-clause-told
returns-in-Settle-clause-told c =
    let e = subst (λ p. PreparesFrame c.args.kind c.args.message c.args.client.now c.prepare.new.client (Ok p))
    c.in-Ok-Settle.field-0-is c.in-Ok-Settle.ensures in
    inr (its_settle c.args.message c.args.answer c.in-Ok-Settle.settle.pair c.in-Ok-Settle.settle.number c.in-Settle.answer
    c.finish-in-Settle.result c.in-Settle.is (ap read_frame (sym e.0) ∙ e.2.carries.1) c.finish-in-Settle.ensures.told)

pub returns-in-Settle-clause-replied : goal.returns-in-Settle-clause-replied
returns-in-Settle-clause-replied c = λ x h.
    settle_replied c.args.message c.in-Settle.answer c.finish-in-Settle.result c.finish-in-Settle.ensures.told x
    (carried_at c.args.message c.args.answer _ x c.in-Settle.is h)

pub returns-in-Err-finish-clause-replied : goal.returns-in-Err-finish-clause-replied
returns-in-Err-finish-clause-replied c = λ x h.
    let e = subst (λ p. PreparesFrame c.args.kind c.args.message c.args.client.now c.prepare.new.client (Ok p))
    c.in-Ok-Letter.field-0-is c.in-Ok-Letter.ensures in
    letter_replied c.args.message c.in-Ok-Letter.letter.letter c.in-Letter.answer (Err c.in-Err-finish.untaken.fault)
    (ap read_frame (sym e.0) ∙ e.2.carries.1) c.in-Err-finish.ensures.told x
    (carried_at c.args.message c.args.answer _ x c.in-Letter.is h)
