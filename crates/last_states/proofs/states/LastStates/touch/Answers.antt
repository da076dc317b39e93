use Rattle.base.specs.Entity.{text_of}
use Rattle.last_states.proofs.Knowing.{known-promoted}
use Rattle.last_states.proofs.Orders.{texts-promoted}
use Rattle.last_states.proofs.states.LastStates.touch.Goals as goal

pub returns-clause-same : goal.returns-clause-same
returns-clause-same g c =
    λ e. rw (c.promote.ensures.entries, c.text.ensures.text) (known-promoted c.args.self.now.states.entries c.args.entity.now e)

pub returns-clause-order : goal.returns-clause-order
returns-clause-order g c =
    let es = c.args.self.now.states.entries in
    rw c.promote.ensures.entries (rw c.text.ensures.text (texts-promoted (text_of c.args.entity.now) es))
