use Rattle.std.proofs.Common.{sym, subst}
use Rattle.std.specs.Prelude.{Ok, Err}
use Rattle.reception.specs.Answers.{Answers}
use Rattle.reception.specs.declared.fault.Untaken.{Untaken}
use Rattle.reception.proofs.Accepted.{answers_at}
use Rattle.reception.proofs.answering.answer_letter.Goals as goal

pub returns-in-Ok-write_letter-clause-answers : goal.returns-in-Ok-write_letter-clause-answers
returns-in-Ok-write_letter-clause-answers c = λ kind.
    answers_at kind c.args.message c.in-Ok.message c.args.client.now.client c.accept.new.client.client
    c.write_letter.new.client.client (Ok c.in-Ok-write_letter.taken) c.in-Ok.ensures.is c.in-Ok.ensures.same
    (c.in-Ok-write_letter.ensures.answers kind)

pub returns-in-Err-write_letter-clause-answers : goal.returns-in-Err-write_letter-clause-answers
returns-in-Err-write_letter-clause-answers c = λ kind.
    let new = c.write_letter.new.client.client in
    let P : Untaken → Type 0 = λ u. Answers kind c.args.message c.args.client.now.client new (Err u.fault) in
    subst P (sym c.of.ensures) (answers_at kind c.args.message c.in-Ok.message c.args.client.now.client
    c.accept.new.client.client new (Err c.in-Err-write_letter.fault) c.in-Ok.ensures.is c.in-Ok.ensures.same
    (c.in-Err-write_letter.ensures.answers kind))
