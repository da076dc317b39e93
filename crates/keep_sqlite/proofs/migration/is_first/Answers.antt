use Rattle.std.proofs.Common.{◌≡◌, length, arith, ap, sym, ◌∙◌, slice_index_or}
use Rattle.std.specs.Prelude.{IsTrue}
use Rattle.sqlite.specs.Held.{state}
use Rattle.sqlite.specs.State.{HasCleanDisk}
use Rattle.sql_rows.specs.FirstVersion.{first_about_tree}
use Rattle.keep_sqlite.proofs.Clean.{clean_before}
use Rattle.keep_sqlite.proofs.Abouts.{tells_of_table}
use Rattle.keep_sqlite.proofs.Renewals.{first_file}
use Rattle.keep_sqlite.proofs.migration.is_first.Goals as goal

pub returns-clause-first : goal.returns-clause-first
returns-clause-first g c clean =
    let old = state g.S.Store c.args.conn.now in
    let new = state g.S.Store c.read_first_about.new.conn in
    let early : HasCleanDisk old = clean_before _ _ c.read_first_about.ensures.clean clean in
    let has : IsTrue c.in_ok-has_first_tables.field-0 = c.if-not-branch.false in
    let low = c.in-len1.len_at_least in
    let high = c.in-len1.len_below in
    let one : length c.as_slice.result.now ≡ 1 = omega (arith, low, high) in
    first_file c.args.service old new (c.read_first_about.ensures.stays clean) (c.in_ok-rows.ensures.open clean)
    (c.requires.settled early) (c.in_ok-has_first_tables.ensures has) (c.requires.rising early) c.tells_version.result
    (tells_of_table _ 1 c.args.service (old.now.trees (first_about_tree c.args.service)) c.in_ok-rows.rows.items
    (c.in_ok-rows.ensures.rows clean) (sym (ap length c.as_slice.ensures.value) ∙ one) c.row-item.result
    (c.row-item.is ∙ ap (λ l. slice_index_or l 0 c.row-item.result) c.as_slice.ensures.value) c.tells_version.result
    c.tells_version.ensures)
