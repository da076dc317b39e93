use Rattle.sqlite.specs.Held.{state}
use Rattle.sqlite.specs.State.{HasCleanDisk}
use Rattle.keep_sqlite.specs.Parts.{with_settled, without_letters}
use Rattle.keep_sqlite.proofs.Clean.{clean_before}
use Rattle.keep_sqlite.proofs.Changes.{both_made}
use Rattle.keep_sqlite.proofs.writes.write_settled.Goals as goal

pub returns-clause-ok : goal.returns-clause-ok
returns-clause-ok g c clean =
    let old = state g.S.Store c.args.tx.now.conn.now in
    let mid = state g.S.Store c.put_settled.new.tx.conn.now in
    let new = state g.S.Store c.take_letters.new.tx.conn.now in
    let between : HasCleanDisk mid = clean_before _ _ c.take_letters.ensures.survives.clean clean in
    both_made g.H.Filed.filing old mid new (with_settled c.args.pair.now c.args.number) (without_letters
    c.args.pair.now c.args.number) _ c.take_letters.result (c.in_ok-count.ensures.ok between)
    (c.take_letters.ensures.ok clean)
