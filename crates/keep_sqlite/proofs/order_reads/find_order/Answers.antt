use Rattle.std.proofs.Common.{ap}
use Rattle.sqlite.specs.Held.{state}
use Rattle.sqlite.specs.State.{HasCleanDisk}
use Rattle.sqlite.specs.Effect.{Database}
use Rattle.keep_sqlite.proofs.Clean.{clean_before}
use Rattle.keep_sqlite.proofs.OrdersRead.{order_is}
use Rattle.keep_sqlite.proofs.OrdersWritten.{one_head}
use Rattle.keep_sqlite.proofs.order_reads.find_order.Goals as goal

pub returns-clause-order : goal.returns-clause-order
returns-clause-order g c clean =
    let old = state g.S.Store c.args.conn.now in
    let mid = state g.S.Store c.read_order_head.new.conn in
    let between : HasCleanDisk mid = clean_before _ _ c.read_order_lines.ensures.clean clean in
    let early : HasCleanDisk old = clean_before _ _ c.read_order_head.ensures.clean between in
    let ready = c.requires.ready early in
    let sound = (c.schema.ensures.live ready.is_open).0 in
    let same = (c.in_ok-heads.ensures.stays between).now_is (c.in_ok-heads.ensures.open between) in
    order_is c.args.key.now (old.now.trees 9) (old.now.trees 11) (mid.now.trees 11)
    (one_head c.args._count old.now ready.filed sound c.args.key.now) (ap (λ (d : Database). d.trees 11) same) _ _
    (c.in_ok-heads.ensures.rows between) (c.in_ok-lines.ensures.rows clean) c.order_of.result
    (rw (c.as_slice.ensures.value, c.as_slice-2.ensures.value) at c.order_of.ensures)
