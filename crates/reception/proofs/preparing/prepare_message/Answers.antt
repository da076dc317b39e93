use Rattle.std.proofs.Common.{◌≡◌, refl, sym, subst}
use Rattle.std.specs.Prelude.{Err}
use Rattle.reception.specs.Answers.{Answers}
use Rattle.reception.specs.Faults.{waiting_after}
use Rattle.reception.specs.Prepared.{IsUnasked}
use Rattle.reception.specs.declared.fault.Untaken.{Untaken}
use Rattle.reception.proofs.preparing.prepare_message.Goals as goal

pub returns-in-Err : goal.returns-in-Err
returns-in-Err c = λ kind.
    let P : Untaken → Type 0 = λ u. IsUnasked u.fault
    × Answers kind c.args.message c.args.client.now.client c.unread-fault.new.client.client (Err u.fault)
    × (u.frame ≡ waiting_after u.fault c.args.message) in
    subst P (sym c.of.ensures) (c.unread-fault.ensures.unasked, c.unread-fault.ensures.answers kind, refl)
