use Rattle.std.proofs.Common.{sym, subst}
use Rattle.std.specs.Prelude.{Err}
use Rattle.reception.specs.Answers.{Answers}
use Rattle.reception.specs.declared.fault.Untaken.{Untaken}
use Rattle.reception.proofs.prepared.PreparedLetter.finish.Goals as goal

pub returns-in-Err-clause-answers : goal.returns-in-Err-clause-answers
returns-in-Err-clause-answers c = λ kind.
    let new = c.answer.new.client.client in
    let P : Untaken → Type 0 = λ u. Answers kind c.args.self.message c.args.client.now.client new (Err u.fault) in
    subst P (sym c.of.ensures) (c.in-Err.ensures.answers kind)
