use Rattle.std.proofs.Common.{◌≡◌, inl, subst, sym, Some}
use Rattle.envelope.specs.Reading.{read_frame}
use Rattle.reception.specs.Answers.{Answers}
use Rattle.reception.specs.Faults.{taken_or}
use Rattle.service_workers.specs.Truth.{RepliedBy}
use Rattle.service_workers.proofs.Replied.{noted_replied, told_replied}
use Rattle.service_workers.proofs.replying.finish_read.Goals as goal

pub returns-in-Letter-answer-clause-answers : goal.returns-in-Letter-answer-clause-answers
returns-in-Letter-answer-clause-answers c = λ kind.
    inl (subst (Answers kind c.args.message c.args.client.now.client c.answer_letter.new.client.client)
    (sym c.told_of.ensures) (c.answer_letter.ensures.answers kind))

pub returns-in-Letter-answer-clause-replied : goal.returns-in-Letter-answer-clause-replied
returns-in-Letter-answer-clause-replied c = λ x h.
    subst (λ r. RepliedBy c.args.message r x) (sym c.told_of.ensures)
    (told_replied c.args.message c.args.answer c.in-Letter.letter c.in-Letter-answer.answer (taken_or c.answer_letter.result)
    c.in-Letter-answer.is (subst (λ e. read_frame c.args.message ≡ Some e) c.in-Letter.is c.requires)
    c.answer_letter.ensures.told x h)

pub returns-in-Settle-answer-clause-answers : goal.returns-in-Settle-answer-clause-answers
returns-in-Settle-answer-clause-answers c = λ kind.
    inl (subst (Answers kind c.args.message c.args.client.now.client c.answer_settle.new.client.client)
    (sym c.told_of-in-Settle-answer.ensures) (c.answer_settle.ensures.answers kind))

pub returns-in-Settle-answer-clause-replied : goal.returns-in-Settle-answer-clause-replied
returns-in-Settle-answer-clause-replied c = λ x h.
    subst (λ r. RepliedBy c.args.message r x) (sym c.told_of-in-Settle-answer.ensures)
    (noted_replied c.args.message c.args.answer c.in-Settle-answer.answer (taken_or c.answer_settle.result)
    c.in-Settle-answer.is c.answer_settle.ensures.told x h)
