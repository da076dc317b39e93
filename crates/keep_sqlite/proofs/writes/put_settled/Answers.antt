use Rattle.std.proofs.Common.{◌≡◌, pos, ap, ◌∙◌, to_z, of_z, w64}
use Rattle.std.proofs.lemmas.Int.{to_z_pos, to_z-of_z}
use Rattle.sqlite.specs.declared.types.Value.TheVariants.{Int}
use Rattle.keep_sqlite.specs.Tables.{number_in}
use Rattle.sqlite.specs.Held.{state}
use Rattle.sqlite.specs.State.{HasCleanDisk}
use Rattle.keep_sqlite.proofs.Clean.{clean_before}
use Rattle.keep_sqlite.proofs.Reading.{sent_cell}
use Rattle.keep_sqlite.proofs.Changes.{settled_bound}
use Rattle.keep_sqlite.proofs.Through.{answered, counted_makes}
use Rattle.keep_sqlite.proofs.writes.put_settled.Goals as goal

pub returns-clause-ok : goal.returns-clause-ok
returns-clause-ok g c clean =
    let f = g.H.Filed.filing in
    let old = state g.S.Store c.args.tx.now.conn.now in
    let mid = state g.S.Store c.find_marks-rows.new.tx.conn.now in
    let new = state g.S.Store c.put_out_marks-made.new.tx.conn.now in
    let between : HasCleanDisk mid = clean_before _ _ c.put_out_marks-made.ensures.survives.clean clean in
    let early : HasCleanDisk old = clean_before _ _ c.find_marks-rows.ensures.survives.clean between in
    let filed = c.requires.filed early in
    let sound = c.requires.sound early in
    let same : to_z w64 (of_z w64 c.bound_number.result) ≡ pos c.args.number =
    ap (λ z. to_z w64 (of_z w64 z)) c.bound_number.ensures.value
    ∙ to_z_pos w64 c.args.number c.bound_number.ensures.small in
    let shown = rw (c.text.ensures.text, c.text-2.ensures.text) at (c.find_marks-rows.ensures.rows between) in
    let told = answered _ _ c.find_marks-rows.result shown c.in_ok-sent.ensures.cell in
    let unchanged = (answered _ _ c.find_marks-rows.result (c.find_marks-rows.ensures.ok between)
    c.in_ok-sent.ensures.cell).1 in
    counted_makes f _ old new c.args.count _ c.put_out_marks-made.result c.counted.result
    (c.put_out_marks-made.ensures.ok clean) c.counted.ensures (λ h. settled_bound f old mid new c.args.count filed sound
    unchanged c.args.pair.now
    c.args.number _ _
    c.text-3.ensures.text c.text-4.ensures.text _ _ same
    (ap (λ z. number_in (Int z)) (to_z-of_z w64 c.in_ok-sent.sent c.in_ok-sent.ensures.fits)
    ∙ sent_cell f c.args.count old.now filed sound c.args.pair.now _ _ _ told.1
    told.2)
    h)
