use Rattle.std.proofs.Common.{◌≡◌, pos, ap, ◌∙◌, to_z, of_z, w64}
use Rattle.std.proofs.lemmas.Int.{to_z_pos}
use Rattle.sqlite.specs.Held.{state}
use Rattle.sqlite.specs.State.{HasCleanDisk}
use Rattle.keep_sqlite.proofs.Clean.{clean_before}
use Rattle.keep_sqlite.proofs.Reading.{held_is}
use Rattle.keep_sqlite.proofs.reads.find_held.Goals as goal

pub returns-clause-message : goal.returns-clause-message
returns-clause-message g c clean =
    let old = state g.S.Store c.args.conn.now in
    let early : HasCleanDisk old = clean_before _ _ c.read_held.ensures.clean clean in
    let ready = c.requires.ready early in
    let same : to_z w64 (of_z w64 c.bound_number.result) ≡ pos c.args.number =
    ap (λ z. to_z w64 (of_z w64 z)) c.bound_number.ensures.value
    ∙ to_z_pos w64 c.args.number c.bound_number.ensures.small in
    held_is g.H.Filed.filing c.args._count old.now ready.filed (c.schema.ensures.live ready.is_open).0 c.args.pair.now _
    c.args.number _ _ _ c.text.ensures.text c.text-2.ensures.text same _ c.message_in.result
    (c.in_ok-rows.ensures.rows clean) (rw c.as_slice.ensures.value at c.message_in.ensures)
