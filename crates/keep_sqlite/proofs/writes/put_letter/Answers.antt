use Rattle.std.proofs.Common.{◌≡◌, pos, ap, ◌∙◌, to_z, of_z, w64}
use Rattle.std.proofs.lemmas.Int.{to_z_pos}
use Rattle.sqlite.specs.Held.{state}
use Rattle.sqlite.specs.State.{HasCleanDisk}
use Rattle.keep_sqlite.proofs.Clean.{clean_before}
use Rattle.keep_sqlite.proofs.Rows.{message_read}
use Rattle.keep_sqlite.proofs.Changes.{puts_letter_bound}
use Rattle.keep_sqlite.proofs.Through.{counted_makes}
use Rattle.keep_sqlite.proofs.writes.put_letter.Goals as goal

pub returns-clause-ok : goal.returns-clause-ok
returns-clause-ok g c clean =
    let f = g.H.Filed.filing in
    let old = state g.S.Store c.args.tx.now.conn.now in
    let new = state g.S.Store c.put_outbox-made.new.tx.conn.now in
    let early : HasCleanDisk old = clean_before _ _ c.put_outbox-made.ensures.survives.clean clean in
    let letter = c.args.letter.now in
    let same : to_z w64 (of_z w64 c.bound_number.result) ≡ pos letter.number =
    ap (λ z. to_z w64 (of_z w64 z)) c.bound_number.ensures.value
    ∙ to_z_pos w64 letter.number c.bound_number.ensures.small in
    counted_makes f _ old new c.args.count _ c.put_outbox-made.result c.counted.result
    (c.put_outbox-made.ensures.ok clean) c.counted.ensures
    (λ h. puts_letter_bound f old new c.args.count (c.requires.filed early) (c.requires.sound early) letter _ _ _ _
    c.text.ensures.text
    c.text-2.ensures.text same
    (message_read letter.message _ c.body.ensures.message (c.as_str.ensures.value ∙ c.in_ok-body.ensures.text))
    h)
