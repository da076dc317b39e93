use Rattle.std.proofs.Common.{arith, ◌∙◌, map, refl}
use Rattle.std.proofs.lemmas.List.{length-map}
use Rattle.sqlite.specs.Held.{state}
use Rattle.sqlite.specs.State.{HasCleanDisk}
use Rattle.keep_sqlite.specs.OrderRenewal.{order_change}
use Rattle.keep_sqlite.specs.Orders.{orders}
use Rattle.keep_sqlite.proofs.Clean.{clean_before}
use Rattle.keep_sqlite.proofs.Changes.{both_keep, survives_quietly}
use Rattle.keep_sqlite.proofs.Commits.{all_made, way_keeps}
use Rattle.keep_sqlite.proofs.OrderRenewal.{none_put, one_more_put}
use Rattle.keep_sqlite.proofs.OrdersWritten.{survives_itself}
use Rattle.keep_sqlite.proofs.order_renewal.put_orders.Goals as goal

pub loop-one-init : goal.loop-one-init
loop-one-init g c =
    let old = state g.S.Store c.args.tx.now.conn.now in (
      refl,
      survives_itself old,
      λ clean. none_put c.args.keyed.now c.args.count old (c.requires.filed clean) (c.requires.sound clean)
          (c.requires.inside clean) (c.requires.open clean),
      λ clean. refl,
    )

pub returns-in_err-count-clause-kept : goal.returns-in_err-count-clause-kept
returns-in_err-count-clause-kept g c clean =
    let old = state g.S.Store c.args.tx.now.conn.now in
    let mid = state g.S.Store c.loop-one.tx.conn.now in
    let early : HasCleanDisk mid = clean_before _ _ c.put_order.ensures.survives.clean clean in
    both_keep orders old mid (state g.S.Store c.put_order.new.tx.conn.now)
    (way_keeps orders _ (map order_change c.args.keyed.now) c.loop-one.count old mid (c.loop-one.invariant.2 early))
    (c.put_order.ensures.kept clean)

pub returns-in_err-count-clause-survives : goal.returns-in_err-count-clause-survives
returns-in_err-count-clause-survives g c =
    survives_quietly (state g.S.Store c.args.tx.now.conn.now) (state g.S.Store c.loop-one.tx.conn.now)
    (state g.S.Store c.put_order.new.tx.conn.now) c.loop-one.invariant.1 c.put_order.ensures.survives

pub loop-one-preserved : goal.loop-one-preserved
loop-one-preserved g c =
    let old = state g.S.Store c.args.tx.now.conn.now in
    let mid = state g.S.Store c.loop-one.tx.conn.now in
    let new = state g.S.Store c.put_order.new.tx.conn.now in
    let early : HasCleanDisk new → HasCleanDisk mid =
    (λ clean. clean_before _ _ c.put_order.ensures.survives.clean clean) in (
      c.put_order.ensures.same_reference ∙ c.loop-one.invariant.0,
      survives_quietly old mid new c.loop-one.invariant.1 c.put_order.ensures.survives,
      λ clean. one_more_put c.args.keyed.now c.loop-one.one-index c.one-item.result c.loop-one-test.true c.one-item.is
          _ c.as_str.ensures.value c.loop-one.count _ old mid new (c.in_ok-count.ensures.ok clean)
          (c.loop-one.invariant.2 (early clean)),
      λ clean. c.in_ok-count.ensures.about clean ∙ c.loop-one.invariant.3 (early clean),
    )

pub returns-clause-ok : goal.returns-clause-ok
returns-clause-ok g c clean =
    let all = map order_change c.args.keyed.now in
    all_made orders all c.loop-one.one-index c.loop-one.count (state g.S.Store c.args.tx.now.conn.now)
    (state g.S.Store c.loop-one.tx.conn.now)
    (omega (arith, c.loop-one-test.false, length-map c.args.keyed.now order_change)) (c.loop-one.invariant.2 clean)

pub returns-clause-kept : goal.returns-clause-kept
returns-clause-kept g c clean =
    way_keeps orders _ (map order_change c.args.keyed.now) c.loop-one.count (state g.S.Store c.args.tx.now.conn.now)
    (state g.S.Store c.loop-one.tx.conn.now) (c.loop-one.invariant.2 clean)

pub returns-clause-about : goal.returns-clause-about
returns-clause-about g c = c.loop-one.invariant.3
