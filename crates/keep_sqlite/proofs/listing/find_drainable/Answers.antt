use Rattle.sqlite.specs.Held.{state}
use Rattle.sqlite.specs.State.{HasCleanDisk}
use Rattle.keep_sqlite.proofs.Clean.{clean_before}
use Rattle.keep_sqlite.proofs.Drain.{drainable_is}
use Rattle.keep_sqlite.proofs.listing.find_drainable.Goals as goal

pub returns-clause-pair : goal.returns-clause-pair
returns-clause-pair g c clean =
    let old = state g.S.Store c.args.conn.now in
    let early : HasCleanDisk old = clean_before _ _ c.read_drainable.ensures.clean clean in
    let ready = c.requires.ready early in
    drainable_is g.H.Filed.filing c.args._count old.now ready.filed (c.schema.ensures.live ready.is_open).0
    c.pair_in.result c.in_ok-rows.rows.items (c.in_ok-rows.ensures.rows clean)
    (rw c.as_slice.ensures.value at c.pair_in.ensures)
