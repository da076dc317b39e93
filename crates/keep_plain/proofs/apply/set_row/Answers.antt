use Rattle.keep_plain.proofs.Made.{state_made}
use Rattle.keep_plain.proofs.apply.set_row.Goals as goal

pub returns-clause-made : goal.returns-clause-made
returns-clause-made g c = state_made c.args.maps.now c.args.entity c.args.row c.set_slot.new.map c.set_slot.ensures.sets
