use Rattle.base.specs.Entity.{text_of}
use Rattle.last_states.proofs.Knowing.{known-removed}
use Rattle.last_states.proofs.Orders.{texts-removed}
use Rattle.last_states.proofs.states.LastStates.forget.Goals as goal

pub returns-clause-forgotten : goal.returns-clause-forgotten
returns-clause-forgotten g c = λ e.
    rw (c.pop.ensures.entries, c.text.ensures.text)
    (known-removed c.args.self.now.states.entries c.args.entity.now c.len.ensures.valid.0 e)

pub returns-clause-order : goal.returns-clause-order
returns-clause-order g c =
    let es = c.args.self.now.states.entries in
    rw c.pop.ensures.entries (rw c.text.ensures.text (texts-removed (text_of c.args.entity.now) es))
