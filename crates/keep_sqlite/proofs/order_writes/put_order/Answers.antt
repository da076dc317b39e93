use Rattle.std.proofs.Common.{arith, sym}
use Rattle.sqlite.specs.Held.{state}
use Rattle.sqlite.specs.State.{HasCleanDisk}
use Rattle.keep_sqlite.proofs.Clean.{clean_before}
use Rattle.keep_sqlite.proofs.OrdersWritten.{about_stays, order_made}
use Rattle.keep_sqlite.proofs.order_writes.put_order.Goals as goal

pub returns-clause-ok : goal.returns-clause-ok
returns-clause-ok g c clean =
    let old = state g.S.Store c.args.tx.now.conn.now in
    let a = state g.S.Store c.take_order_lines.new.tx.conn.now in
    let b = state g.S.Store c.put_head.new.tx.conn.now in
    let with_head : HasCleanDisk b = clean_before _ _ c.add_lines.ensures.survives.clean clean in
    let without : HasCleanDisk a = clean_before _ _ c.put_head.ensures.survives.clean with_head in
    let early : HasCleanDisk old = clean_before _ _ c.take_order_lines.ensures.survives.clean without in
    order_made c.args.count c.args.key.now old (c.requires.filed early) (c.requires.sound early) a b
    (state g.S.Store c.add_lines.new.tx.conn.now) c.args.order.now c.saturating_sub-stocks.result
    c.status-status.result c.in-Some.account.now c.status-status.ensures.sound c.status-status.ensures.status
    (omega (arith, c.saturating_sub-stocks.ensures, c.partner_count.ensures)) (sym c.in-Some.ensures)
    c.put_head.ensures.named c.in_ok-add_lines.ensures.named (c.in_ok-take_order_lines.ensures.ok without)
    (c.in_ok-put_head.ensures.ok with_head) (c.in_ok-add_lines.ensures.ok clean)

pub returns-clause-about : goal.returns-clause-about
returns-clause-about g c clean =
    let old = state g.S.Store c.args.tx.now.conn.now in
    let a = state g.S.Store c.take_order_lines.new.tx.conn.now in
    let b = state g.S.Store c.put_head.new.tx.conn.now in
    let with_head : HasCleanDisk b = clean_before _ _ c.add_lines.ensures.survives.clean clean in
    let without : HasCleanDisk a = clean_before _ _ c.put_head.ensures.survives.clean with_head in
    let early : HasCleanDisk old = clean_before _ _ c.take_order_lines.ensures.survives.clean without in
    about_stays _ _ _ old a b (state g.S.Store c.add_lines.new.tx.conn.now) (c.requires.filed early).is
    (c.in_ok-take_order_lines.ensures.ok without) (c.in_ok-put_head.ensures.ok with_head)
    (c.in_ok-add_lines.ensures.ok clean)
