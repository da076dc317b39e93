use Rattle.std.proofs.Common.{◌≡◌, pos, ap, ◌∙◌, to_z, of_z, w64}
use Rattle.std.proofs.lemmas.Int.{to_z_pos}
use Rattle.sqlite.specs.Effect.{Database}
use Rattle.sqlite.specs.Held.{state}
use Rattle.sqlite.specs.State.{HasCleanDisk}
use Rattle.keep_sqlite.proofs.Clean.{clean_before}
use Rattle.keep_sqlite.proofs.Positions.{counted, not_greatest}
use Rattle.keep_sqlite.proofs.opening.count_journal.Goals as goal

pub returns-clause-counted : goal.returns-clause-counted
returns-clause-counted g c clean =
    let old = state g.S.Store c.args.conn.now in
    let mid = state g.S.Store c.count_all.new.conn in
    let before : HasCleanDisk mid = clean_before _ _ c.count_upto.ensures.clean clean in
    let first : HasCleanDisk old = clean_before _ _ c.count_all.ensures.clean before in
    let n = c.in_ok-count.count in
    let last : to_z w64 (of_z w64 c.in_ok-last.last) ≡ pos n =
    ap (λ z. to_z w64 (of_z w64 z)) c.in_ok-last.ensures.value
    ∙ to_z_pos w64 n c.in_ok-last.ensures.small in
    let same = (c.in_ok-count.ensures.stays before).now_is (c.in_ok-count.ensures.open before) in
    let rows : mid.now.trees 0 ≡ old.now.trees 0 = ap (λ (d : Database). d.trees 0) same in
    counted (old.now.trees 0) n c.in_ok-count_upto.field-0 (c.requires.rising first)
    (c.in_ok-count.ensures.count before)
    (not_greatest n c.in_ok-last.last c.in_ok-last.ensures.value c.in_ok-last.ensures.small
    (λ e. c.if-last-eq9223372036854775807.false (ap (of_z w64) e)))
    (rw (last, rows) at (c.in_ok-count_upto.ensures.count clean)) c.if-branch-count.false
