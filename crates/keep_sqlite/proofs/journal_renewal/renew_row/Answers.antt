use Rattle.std.proofs.Common.{◌≡◌, pos, ap, subst, ◌∙◌, to_z, of_z, w64}
use Rattle.std.proofs.Common.{Some, filter}
use Rattle.std.proofs.lemmas.Int.{to_z_pos}
use Rattle.std.specs.Option.{option_map}
use Rattle.std.specs.Prelude.{string_bytes}
use Rattle.sqlite.specs.Held.{state}
use Rattle.sqlite.specs.State.{HasCleanDisk}
use Rattle.sql_rows.specs.Tables.{AreInOrder, by_position, is_from, shown_entry}
use Rattle.keep_sqlite.specs.JournalRenewal.{IsBodyOfToday}
use Rattle.keep_sqlite.proofs.Clean.{clean_before}
use Rattle.keep_sqlite.proofs.JournalRenewal.{the_one, row_stays, row_set}
use Rattle.keep_sqlite.proofs.Through.{answered}
use Rattle.keep_sqlite.proofs.journal_renewal.renew_row.Goals as goal

pub returns-in_ok-set_body-in-Some-clause-ok : goal.returns-in_ok-set_body-in-Some-clause-ok
returns-in_ok-set_body-in-Some-clause-ok g c clean =
    let old = state g.S.Store c.args.tx.now.conn.now in
    let mid = state g.S.Store c.read_journal_inside-rows.new.tx.conn.now in
    let before : HasCleanDisk mid = clean_before _ _ c.set_body.ensures.survives.clean clean in
    let first : HasCleanDisk old = clean_before _ _ c.read_journal_inside-rows.ensures.survives.clean before in
    let n = c.args.position in
    let place : to_z w64 (of_z w64 c.in_ok-at.at) ≡ pos n =
    ap (λ z. to_z w64 (of_z w64 z)) c.in_ok-at.ensures.value
    ∙ to_z_pos w64 n c.in_ok-at.ensures.small in
    let answer = c.read_journal_inside-rows.result in
    let rows = rw place at (c.read_journal_inside-rows.ensures.rows before) in
    let told = answered _ _ answer rows c.in_ok-body.ensures in
    let same = (answered _ _ answer (c.read_journal_inside-rows.ensures.ok before) c.in_ok-body.ensures).1 in
    let one = the_one _ _ told.2 in
    let shown = subst (AreInOrder by_position (Some 1) shown_entry (filter (is_from (pos n)) (old.now.trees 0))) one.1
    told.1 in
    row_set n one.0 old mid same (c.requires.rising first) (c.requires.numbered first)
    (c.requires.sound first) (c.requires.inside first) shown (state g.S.Store c.set_body.new.tx.conn.now)
    (string_bytes c.in-Some.body)
    (subst (λ o. IsBodyOfToday one.0 (option_map (λ s. string_bytes s) o)) c.in-Some.is one.2)
    (rw (place, c.as_str.ensures.value) at (c.in_ok-set_body-in-Some.ensures.ok clean))

pub returns-in-None-clause-ok : goal.returns-in-None-clause-ok
returns-in-None-clause-ok g c clean =
    let old = state g.S.Store c.args.tx.now.conn.now in
    let first : HasCleanDisk old = clean_before _ _ c.read_journal_inside-rows.ensures.survives.clean clean in
    let n = c.args.position in
    let place : to_z w64 (of_z w64 c.in_ok-at.at) ≡ pos n =
    ap (λ z. to_z w64 (of_z w64 z)) c.in_ok-at.ensures.value
    ∙ to_z_pos w64 n c.in_ok-at.ensures.small in
    let answer = c.read_journal_inside-rows.result in
    let rows = rw place at (c.read_journal_inside-rows.ensures.rows clean) in
    let told = answered _ _ answer rows c.in_ok-body.ensures in
    let same = (answered _ _ answer (c.read_journal_inside-rows.ensures.ok clean) c.in_ok-body.ensures).1 in
    let one = the_one _ _ told.2 in
    let shown = subst (AreInOrder by_position (Some 1) shown_entry (filter (is_from (pos n)) (old.now.trees 0))) one.1
    told.1 in
    row_stays n one.0 old (state g.S.Store c.read_journal_inside-rows.new.tx.conn.now) same
    (c.requires.rising first) (c.requires.numbered first) (c.requires.sound first) (c.requires.inside first) shown
    (subst (λ o. IsBodyOfToday one.0 (option_map (λ s. string_bytes s) o)) c.in-None.is one.2)
