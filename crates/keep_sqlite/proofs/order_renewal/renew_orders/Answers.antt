use Rattle.std.proofs.Common.{subst, sym}
use Rattle.sqlite.specs.Held.{state}
use Rattle.sqlite.specs.State.{HasCleanDisk}
use Rattle.keep_sqlite.specs.OrderRenewal.{AreTold}
use Rattle.keep_sqlite.proofs.Clean.{clean_before}
use Rattle.keep_sqlite.proofs.OrderRenewal.{all_keep, all_survive, empty_rises, orders_renewed}
use Rattle.keep_sqlite.proofs.OrderRenewal.{seen_schema}
use Rattle.keep_sqlite.proofs.order_renewal.renew_orders.Goals as goal

pub replace_tables-requires-clause-schema : goal.replace_tables-requires-clause-schema
replace_tables-requires-clause-schema g c clean =
    let old = state g.S.Store c.args.tx.now.conn.now in
    let early : HasCleanDisk old = clean_before _ _ c.read_first_orders_inside.ensures.survives.clean clean in
    seen_schema old (state g.S.Store c.read_first_orders_inside.new.tx.conn.now)
    (c.in_ok-rows.ensures.ok clean) (c.requires.first early) (c.requires.sound early)

pub renew_journal-requires-clause-rising : goal.renew_journal-requires-clause-rising
renew_journal-requires-clause-rising g c clean =
    let old = state g.S.Store c.args.tx.now.conn.now in
    let seen = state g.S.Store c.read_first_orders_inside.new.tx.conn.now in
    let empty = state g.S.Store c.replace_tables.new.tx.conn.now in
    let read : HasCleanDisk seen = clean_before _ _ c.replace_tables.ensures.survives.clean clean in
    let early : HasCleanDisk old = clean_before _ _ c.read_first_orders_inside.ensures.survives.clean read in
    empty_rises old seen (c.in_ok-rows.ensures.ok read) (c.requires.first early) (c.requires.sound early) empty
    (c.in_ok-replace_tables.ensures.ok clean)

pub returns-clause-ok : goal.returns-clause-ok
returns-clause-ok g c clean =
    let old = state g.S.Store c.args.tx.now.conn.now in
    let seen = state g.S.Store c.read_first_orders_inside.new.tx.conn.now in
    let empty = state g.S.Store c.replace_tables.new.tx.conn.now in
    let journal = state g.S.Store c.renew_journal.new.tx.conn.now in
    let new = state g.S.Store c.put_orders.new.tx.conn.now in
    let written : HasCleanDisk journal = clean_before _ _ c.put_orders.ensures.survives.clean clean in
    let without : HasCleanDisk empty = clean_before _ _ c.renew_journal.ensures.survives.clean written in
    let read : HasCleanDisk seen = clean_before _ _ c.replace_tables.ensures.survives.clean without in
    let early : HasCleanDisk old = clean_before _ _ c.read_first_orders_inside.ensures.survives.clean read in
    let told : AreTold c.in_ok-rows.rows.items c.as_slice-2.result.now =
    subst (λ l. AreTold l c.as_slice-2.result.now) c.as_slice.ensures.value
    (subst (AreTold c.as_slice.result.now) (sym c.as_slice-2.ensures.value) c.in_ok-keyed.ensures) in
    orders_renewed old seen (c.in_ok-rows.ensures.ok read) (c.requires.first early) (c.requires.sound early) empty
    (c.in_ok-replace_tables.ensures.ok without) c.in_ok-count.count _ journal new
    (c.in_ok-count.ensures.ok written) _ _ (c.in_ok-rows.ensures.rows read) told
    (c.in_ok-put_orders.ensures.ok clean) (c.in_ok-put_orders.ensures.about clean)

pub returns-clause-kept : goal.returns-clause-kept
returns-clause-kept g c clean =
    let old = state g.S.Store c.args.tx.now.conn.now in
    let seen = state g.S.Store c.read_first_orders_inside.new.tx.conn.now in
    let empty = state g.S.Store c.replace_tables.new.tx.conn.now in
    let journal = state g.S.Store c.renew_journal.new.tx.conn.now in
    let new = state g.S.Store c.put_orders.new.tx.conn.now in
    let written : HasCleanDisk journal = clean_before _ _ c.put_orders.ensures.survives.clean clean in
    let without : HasCleanDisk empty = clean_before _ _ c.renew_journal.ensures.survives.clean written in
    let read : HasCleanDisk seen = clean_before _ _ c.replace_tables.ensures.survives.clean without in
    all_keep old seen empty journal new (c.read_first_orders_inside.ensures.kept read)
    (c.replace_tables.ensures.kept without) (c.renew_journal.ensures.kept written) (c.put_orders.ensures.kept clean)

pub returns-clause-survives : goal.returns-clause-survives
returns-clause-survives g c =
    all_survive (state g.S.Store c.args.tx.now.conn.now)
    (state g.S.Store c.read_first_orders_inside.new.tx.conn.now) (state g.S.Store c.replace_tables.new.tx.conn.now)
    (state g.S.Store c.renew_journal.new.tx.conn.now) (state g.S.Store c.put_orders.new.tx.conn.now)
    c.read_first_orders_inside.ensures.survives c.replace_tables.ensures.survives c.renew_journal.ensures.survives
    c.put_orders.ensures.survives

pub returns-in_err-put_orders-clause-kept : goal.returns-in_err-put_orders-clause-kept
returns-in_err-put_orders-clause-kept g c clean =
    let old = state g.S.Store c.args.tx.now.conn.now in
    let seen = state g.S.Store c.read_first_orders_inside.new.tx.conn.now in
    let empty = state g.S.Store c.replace_tables.new.tx.conn.now in
    let journal = state g.S.Store c.renew_journal.new.tx.conn.now in
    let new = state g.S.Store c.put_orders.new.tx.conn.now in
    let written : HasCleanDisk journal = clean_before _ _ c.put_orders.ensures.survives.clean clean in
    let without : HasCleanDisk empty = clean_before _ _ c.renew_journal.ensures.survives.clean written in
    let read : HasCleanDisk seen = clean_before _ _ c.replace_tables.ensures.survives.clean without in
    all_keep old seen empty journal new (c.read_first_orders_inside.ensures.kept read)
    (c.replace_tables.ensures.kept without) (c.renew_journal.ensures.kept written) (c.put_orders.ensures.kept clean)

pub returns-in_err-put_orders-clause-survives : goal.returns-in_err-put_orders-clause-survives
returns-in_err-put_orders-clause-survives g c =
    all_survive (state g.S.Store c.args.tx.now.conn.now)
    (state g.S.Store c.read_first_orders_inside.new.tx.conn.now) (state g.S.Store c.replace_tables.new.tx.conn.now)
    (state g.S.Store c.renew_journal.new.tx.conn.now) (state g.S.Store c.put_orders.new.tx.conn.now)
    c.read_first_orders_inside.ensures.survives c.replace_tables.ensures.survives c.renew_journal.ensures.survives
    c.put_orders.ensures.survives
