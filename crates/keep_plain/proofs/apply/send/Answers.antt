use Rattle.keep_plain.proofs.Made.{sent_made}
use Rattle.keep_plain.proofs.apply.send.Goals as goal

pub returns-clause-made : goal.returns-clause-made
returns-clause-made g c =
    sent_made c.args.maps.now c.args.letter c.set_mark.new.marks c.set_slot.new.map c.set_mark.ensures.sets
    c.set_slot.ensures.sets
