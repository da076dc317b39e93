use Rattle.std.proofs.Common.{sym, ◌∙◌}
use Rattle.broker_index.proofs.Touching.{found_in_order, not_found_in_order}
use Rattle.broker_index.proofs.keyed.search_value.Goals as goal

pub returns-in-Some : goal.returns-in-Some
returns-in-Some g c =
    let found = c.in-Some.ensures.found in
    c.get.ensures ∙ found.1 ∙ sym (found_in_order g.T.Keyed.number_of c.args.slab.now.slots c.in-Some.key c.args.number
    found.0 found.1
    found.2 c.requires)

pub returns-in-None : goal.returns-in-None
returns-in-None g c =
    sym (not_found_in_order g.T.Keyed.number_of c.args.slab.now.slots c.args.number c.in-None.ensures.absent)
