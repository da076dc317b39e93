use Rattle.std.proofs.Common.{sym, ◌∙◌}
use Rattle.broker_index.proofs.Touching.{found_in_order}
use Rattle.broker_index.proofs.keyed.find_value.Goals as goal

pub returns-in-Some : goal.returns-in-Some
returns-in-Some g c =
    sym (found_in_order g.T.Keyed.number_of c.args.slab.now.slots c.args.hint c.args.number c.in-Some.value.now
    (sym c.in-Some.ensures)
    (sym c.key_number.ensures ∙ c.if-key_number-number.true) c.requires)
