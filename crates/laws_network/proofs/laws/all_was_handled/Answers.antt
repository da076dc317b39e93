use Rattle.endpoint.specs.Deeds.{kept}
use Rattle.laws_network.proofs.Arriving.{full_is_all}
use Rattle.laws_network.proofs.laws.all_was_handled.Goals as goal

pub returns-clause-right : goal.returns-clause-right
returns-clause-right g c = λ z p fair count.
    full_is_all g.H.Handler.service.reactions (kept z.left) (kept z.right) p fair.right count

pub returns-clause-left : goal.returns-clause-left
returns-clause-left g c = λ z p fair count.
    full_is_all g.G.Handler.service.reactions (kept z.right) (kept z.left) p fair.left count
