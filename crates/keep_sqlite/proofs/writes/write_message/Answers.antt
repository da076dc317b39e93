use Rattle.std.proofs.Common.{◌+◌, ◌≡◌, pos, ap, ◌∙◌, to_z, of_z, w64}
use Rattle.std.proofs.lemmas.Int.{to_z_pos}
use Rattle.sqlite.specs.Held.{state}
use Rattle.sqlite.specs.State.{HasCleanDisk}
use Rattle.keep_sqlite.proofs.Clean.{clean_before}
use Rattle.keep_sqlite.proofs.Rows.{message_row}
use Rattle.keep_sqlite.proofs.Changes.{adds}
use Rattle.keep_sqlite.proofs.Through.{counted_makes}
use Rattle.keep_sqlite.proofs.writes.write_message.Goals as goal

pub returns-clause-ok : goal.returns-clause-ok
returns-clause-ok g c clean =
    let f = g.H.Filed.filing in
    let old = state g.S.Store c.args.tx.now.conn.now in
    let new = state g.S.Store c.add_message-made.new.tx.conn.now in
    let early : HasCleanDisk old = clean_before _ _ c.add_message-made.ensures.survives.clean clean in
    let same : to_z w64 (of_z w64 c.bound_number.result) ≡ pos c.args.number =
    ap (λ z. to_z w64 (of_z w64 z)) c.bound_number.ensures.value
    ∙ to_z_pos w64 c.args.number c.bound_number.ensures.small in
    counted_makes f _ old new (c.args.count + 1) _ c.add_message-made.result c.counted.result
    (c.add_message-made.ensures.ok clean) c.counted.ensures
    (λ h. adds f old new c.args.count (c.requires.filed early) (c.requires.sound early) _ _
    (message_row f c.args.entity.now _ c.text.ensures.entity c.text.ensures.text c.args.sender.now _ c.args.number _
    c.args.message _
    c.text-2.ensures.entity c.text-2.ensures.text same c.bound_number.ensures.number c.body.ensures.message
    (c.as_str.ensures.value ∙ c.in_ok-body.ensures.text))
    h)
