use Rattle.std.proofs.Common.{◌≡◌, pos, ap, ◌∙◌, to_z, of_z, w64}
use Rattle.std.proofs.lemmas.Int.{to_z_pos}
use Rattle.sqlite.specs.Held.{state}
use Rattle.sqlite.specs.State.{HasCleanDisk}
use Rattle.keep_sqlite.proofs.Clean.{clean_before}
use Rattle.keep_sqlite.proofs.Changes.{releases_bound}
use Rattle.keep_sqlite.proofs.Through.{counted_makes}
use Rattle.keep_sqlite.proofs.writes.write_not_held.Goals as goal

pub returns-clause-ok : goal.returns-clause-ok
returns-clause-ok g c clean =
    let old = state g.S.Store c.args.tx.now.conn.now in
    let new = state g.S.Store c.take_held-made.new.tx.conn.now in
    let early : HasCleanDisk old = clean_before _ _ c.take_held-made.ensures.survives.clean clean in
    let same : to_z w64 (of_z w64 c.bound_number.result) ≡ pos c.args.number =
    ap (λ z. to_z w64 (of_z w64 z)) c.bound_number.ensures.value
    ∙ to_z_pos w64 c.args.number c.bound_number.ensures.small in
    counted_makes g.H.Filed.filing _ old new c.args.count _ c.take_held-made.result c.counted.result
    (c.take_held-made.ensures.ok clean) c.counted.ensures
    (λ h. releases_bound g.H.Filed.filing old new c.args.count (c.requires.filed early) (c.requires.sound early)
    c.args.pair.now c.args.number _ _ _ c.text.ensures.text c.text-2.ensures.text
    same h)
