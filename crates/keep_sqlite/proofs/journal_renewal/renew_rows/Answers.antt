use Rattle.std.proofs.Common.{arith, refl, subst, ◌∙◌, sym}
use Rattle.std.specs.List.{AllZip}
use Rattle.sqlite.specs.Held.{state}
use Rattle.sqlite.specs.State.{HasCleanDisk}
use Rattle.sql_rows.specs.Schema.{IsService}
use Rattle.sql_rows.specs.Tables.{Edits}
use Rattle.keep_sqlite.specs.JournalRenewal.{IsRenewedUpto}
use Rattle.keep_sqlite.specs.Orders.{orders}
use Rattle.keep_sqlite.proofs.Clean.{clean_before}
use Rattle.keep_sqlite.proofs.Changes.{both_keep, survives_quietly}
use Rattle.keep_sqlite.proofs.JournalRenewal.{renewing_starts, renewing_keeps, renewing_more, still_numbered}
use Rattle.keep_sqlite.proofs.journal_renewal.renew_rows.Goals as goal

pub loop-index-init : goal.loop-index-init
loop-index-init g c = (
  refl,
  renewing_starts (state g.S.Store c.args.tx.now.conn.now) c.requires.rising c.requires.sound c.requires.open
      c.requires.inside,
)

pub renew_row-requires-clause-schema : goal.renew_row-requires-clause-schema
renew_row-requires-clause-schema g c clean =
    let early : HasCleanDisk (state g.S.Store c.args.tx.now.conn.now) =
    clean_before _ _ c.loop-index.invariant.1.survives.clean clean in
    subst IsService (sym (c.loop-index.invariant.1.done clean).same_schema) (c.requires.schema early)

pub renew_row-requires-clause-rising : goal.renew_row-requires-clause-rising
renew_row-requires-clause-rising g c clean = (c.loop-index.invariant.1.done clean).rising

pub renew_row-requires-clause-numbered : goal.renew_row-requires-clause-numbered
renew_row-requires-clause-numbered g c clean =
    let old = state g.S.Store c.args.tx.now.conn.now in
    let early : HasCleanDisk old = clean_before _ _ c.loop-index.invariant.1.survives.clean clean in
    still_numbered c.loop-index.index 1 (old.now.trees 0) ((state g.S.Store c.loop-index.tx.conn.now).now.trees 0)
    (c.loop-index.invariant.1.done clean).rows (c.requires.numbered early)

pub renew_row-requires-clause-sound : goal.renew_row-requires-clause-sound
renew_row-requires-clause-sound g c clean = (c.loop-index.invariant.1.done clean).sound

pub renew_row-requires-clause-inside : goal.renew_row-requires-clause-inside
renew_row-requires-clause-inside g c clean = (c.loop-index.invariant.1.done clean).shown.mode

pub returns-in_err-renew_row-clause-same_reference : goal.returns-in_err-renew_row-clause-same_reference
returns-in_err-renew_row-clause-same_reference g c = c.renew_row.ensures.same_reference ∙ c.loop-index.invariant.0

pub returns-in_err-renew_row-clause-kept : goal.returns-in_err-renew_row-clause-kept
returns-in_err-renew_row-clause-kept g c clean =
    let old = state g.S.Store c.args.tx.now.conn.now in
    let mid = state g.S.Store c.loop-index.tx.conn.now in
    let between : HasCleanDisk mid = clean_before _ _ c.renew_row.ensures.survives.clean clean in
    both_keep orders old mid (state g.S.Store c.renew_row.new.tx.conn.now)
    (renewing_keeps _ _ _ c.loop-index.invariant.1 between) (c.renew_row.ensures.kept clean)

pub returns-in_err-renew_row-clause-survives : goal.returns-in_err-renew_row-clause-survives
returns-in_err-renew_row-clause-survives g c =
    survives_quietly (state g.S.Store c.args.tx.now.conn.now) (state g.S.Store c.loop-index.tx.conn.now)
    (state g.S.Store c.renew_row.new.tx.conn.now) c.loop-index.invariant.1.survives c.renew_row.ensures.survives

pub loop-index-preserved : goal.loop-index-preserved
loop-index-preserved g c = (
  c.renew_row.ensures.same_reference ∙ c.loop-index.invariant.0,
  renewing_more c.loop-index.index (state g.S.Store c.args.tx.now.conn.now) (state g.S.Store c.loop-index.tx.conn.now)
      (state g.S.Store c.renew_row.new.tx.conn.now) c.loop-index.invariant.1 c.renew_row.ensures.survives
      c.in_ok-renew_row.ensures.ok,
)

pub returns-clause-same_reference : goal.returns-clause-same_reference
returns-clause-same_reference g c = c.loop-index.invariant.0

pub returns-clause-ok : goal.returns-clause-ok
returns-clause-ok g c clean =
    let old = state g.S.Store c.args.tx.now.conn.now in
    let new = state g.S.Store c.loop-index.tx.conn.now in
    subst (λ n. Edits 0 (AllZip (IsRenewedUpto n)) old new)
    (omega (arith, c.loop-index-test.false, c.loop-index.auto.index-end)) (c.loop-index.invariant.1.done clean)

pub returns-clause-kept : goal.returns-clause-kept
returns-clause-kept g c = renewing_keeps _ _ _ c.loop-index.invariant.1

pub returns-clause-survives : goal.returns-clause-survives
returns-clause-survives g c = c.loop-index.invariant.1.survives
