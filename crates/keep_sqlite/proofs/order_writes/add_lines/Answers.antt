use Rattle.std.proofs.Common.{arith, refl, sym, subst, ◌∙◌, take}
use Rattle.std.specs.List.{AllByRecursion}
use Rattle.sqlite.specs.Held.{state}
use Rattle.sqlite.specs.State.{HasCleanDisk}
use Rattle.sql_rows.specs.Tables.{Edits}
use Rattle.keep_sqlite.specs.AddedRows.{AreAdded}
use Rattle.keep_sqlite.specs.Orders.{orders, lines_cells, IsNamed}
use Rattle.keep_sqlite.proofs.Clean.{clean_before}
use Rattle.keep_sqlite.proofs.Changes.{both_keep, survives_quietly}
use Rattle.keep_sqlite.proofs.OrdersWritten.{adding_starts, adding_keeps, adding_more}
use Rattle.keep_sqlite.proofs.order_writes.add_lines.Goals as goal

pub loop-index-init : goal.loop-index-init
loop-index-init g c = (
  refl,
  adding_starts c.args.key.now c.args.order.now.partners (state g.S.Store c.args.tx.now.conn.now) c.requires.rising
      c.requires.sound c.requires.open c.requires.inside,
)

pub returns-in_default-clause-same_reference : goal.returns-in_default-clause-same_reference
returns-in_default-clause-same_reference g c = c.loop-index.invariant.0

pub returns-in_default-clause-kept : goal.returns-in_default-clause-kept
returns-in_default-clause-kept g c = adding_keeps _ _ _ _ _ c.loop-index.invariant.1

pub returns-in_default-clause-survives : goal.returns-in_default-clause-survives
returns-in_default-clause-survives g c = c.loop-index.invariant.1.survives

pub add_line-requires-clause-schema : goal.add_line-requires-clause-schema
add_line-requires-clause-schema g c clean =
    let early : HasCleanDisk (state g.S.Store c.args.tx.now.conn.now) =
    clean_before _ _ c.loop-index.invariant.1.survives.clean clean in
    (c.loop-index.invariant.1.done clean).same_schema ∙ c.requires.schema early

pub add_line-requires-clause-rising : goal.add_line-requires-clause-rising
add_line-requires-clause-rising g c clean = (c.loop-index.invariant.1.done clean).rising

pub add_line-requires-clause-inside : goal.add_line-requires-clause-inside
add_line-requires-clause-inside g c clean = (c.loop-index.invariant.1.done clean).shown.mode

pub returns-in_err-add_line-clause-same_reference : goal.returns-in_err-add_line-clause-same_reference
returns-in_err-add_line-clause-same_reference g c = c.add_line.ensures.same_reference ∙ c.loop-index.invariant.0

pub returns-in_err-add_line-clause-kept : goal.returns-in_err-add_line-clause-kept
returns-in_err-add_line-clause-kept g c clean =
    let old = state g.S.Store c.args.tx.now.conn.now in
    let mid = state g.S.Store c.loop-index.tx.conn.now in
    let between : HasCleanDisk mid = clean_before _ _ c.add_line.ensures.survives.clean clean in
    both_keep orders old mid (state g.S.Store c.add_line.new.tx.conn.now)
    (adding_keeps _ _ _ _ _ c.loop-index.invariant.1 between) (c.add_line.ensures.kept clean)

pub returns-in_err-add_line-clause-survives : goal.returns-in_err-add_line-clause-survives
returns-in_err-add_line-clause-survives g c =
    survives_quietly (state g.S.Store c.args.tx.now.conn.now) (state g.S.Store c.loop-index.tx.conn.now)
    (state g.S.Store c.add_line.new.tx.conn.now) c.loop-index.invariant.1.survives c.add_line.ensures.survives

pub loop-index-preserved : goal.loop-index-preserved
loop-index-preserved g c = (
  c.add_line.ensures.same_reference ∙ c.loop-index.invariant.0,
  adding_more c.args.key.now c.args.order.now.partners c.loop-index.index c.in-Some.stock.now (sym c.in-Some.ensures)
      (state g.S.Store c.args.tx.now.conn.now) (state g.S.Store c.loop-index.tx.conn.now)
      (state g.S.Store c.add_line.new.tx.conn.now) c.loop-index.invariant.1 c.add_line.ensures.survives
      c.add_line.ensures.named c.in_ok-add_line.ensures.ok,
)

pub returns-clause-same_reference : goal.returns-clause-same_reference
returns-clause-same_reference g c = c.loop-index.invariant.0

pub returns-clause-named : goal.returns-clause-named
returns-clause-named g c =
    subst (λ n. AllByRecursion IsNamed (take n c.args.order.now.partners))
    (omega (arith, c.loop-index-test.false, c.loop-index.auto.index-end)) c.loop-index.invariant.1.named

pub returns-clause-ok : goal.returns-clause-ok
returns-clause-ok g c clean =
    let old = state g.S.Store c.args.tx.now.conn.now in
    let new = state g.S.Store c.loop-index.tx.conn.now in
    subst (λ n. Edits 11 (AreAdded (lines_cells c.args.key.now (take n c.args.order.now.partners))) old new)
    (omega (arith, c.loop-index-test.false, c.loop-index.auto.index-end)) (c.loop-index.invariant.1.done clean)

pub returns-clause-kept : goal.returns-clause-kept
returns-clause-kept g c = adding_keeps _ _ _ _ _ c.loop-index.invariant.1

pub returns-clause-survives : goal.returns-clause-survives
returns-clause-survives g c = c.loop-index.invariant.1.survives
