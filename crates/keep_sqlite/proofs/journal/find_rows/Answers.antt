use Rattle.std.proofs.Common.{◌≡◌, ◌-◌, ◌^◌, pos, min, arith, ap, ◌∙◌, to_z, of_z, w64}
use Rattle.std.proofs.lemmas.Int.{to_z_pos}
use Rattle.sqlite.specs.Held.{state}
use Rattle.sqlite.specs.State.{HasCleanDisk}
use Rattle.keep_sqlite.proofs.Clean.{clean_before}
use Rattle.keep_sqlite.proofs.Frames.{journal_rises}
use Rattle.keep_sqlite.proofs.Journals.{rows_are}
use Rattle.keep_sqlite.proofs.journal.find_rows.Goals as goal

pub returns-clause-rows : goal.returns-clause-rows
returns-clause-rows g c clean =
    let old = state g.S.Store c.args.conn.now in
    let early : HasCleanDisk old = clean_before _ _ c.read_journal.ensures.clean clean in
    let filed = (c.requires.ready early).filed in
    let first : to_z w64 (of_z w64 c.in_ok-first.first) ≡ pos c.min.result =
    ap (λ z. to_z w64 (of_z w64 z)) c.in_ok-first.ensures.value
    ∙ to_z_pos w64 c.min.result c.in_ok-first.ensures.small in
    let last : to_z w64 (of_z w64 c.in_ok-most.most) ≡ pos c.min-2.result =
    ap (λ z. to_z w64 (of_z w64 z)) c.in_ok-most.ensures.value
    ∙ to_z_pos w64 c.min-2.result c.in_ok-most.ensures.small in
    rows_are g.H.Filed.filing (old.now.trees 0) c.args.count filed.counted (λ v. v.items) c.rows_at.result
    filed.numbered
    (journal_rises g.H.Filed.filing.schema g.H.Filed.filing.is_service old.now.trees filed.rising) c.args.from
    (2 ^ 64 - 1) c.min.result c.min-2.result c.args.limit _ _ first last (omega (arith, c.ranges.from.fits))
    (c.min.ensures ∙ ap (min c.args.from) c.saturating_add.ensures) c.min-2.ensures _
    (c.in_ok-rows.ensures.rows clean) (rw c.as_slice.ensures.value at c.rows_at.ensures)
