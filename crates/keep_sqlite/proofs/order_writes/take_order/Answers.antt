use Rattle.sqlite.specs.Held.{state}
use Rattle.sqlite.specs.State.{HasCleanDisk}
use Rattle.keep_sqlite.proofs.Clean.{clean_before}
use Rattle.keep_sqlite.proofs.OrdersWritten.{order_taken}
use Rattle.keep_sqlite.proofs.order_writes.take_order.Goals as goal

pub returns-clause-ok : goal.returns-clause-ok
returns-clause-ok g c clean =
    let old = state g.S.Store c.args.tx.now.conn.now in
    let mid = state g.S.Store c.take_order_lines.new.tx.conn.now in
    let between : HasCleanDisk mid = clean_before _ _ c.take_order_head.ensures.survives.clean clean in
    let early : HasCleanDisk old = clean_before _ _ c.take_order_lines.ensures.survives.clean between in
    order_taken c.args.count c.args.key.now old (c.requires.filed early) (c.requires.sound early) mid
    (state g.S.Store c.take_order_head.new.tx.conn.now) (c.in_ok-take_order_lines.ensures.ok between)
    (c.in_ok-take_order_head.ensures.ok clean)
