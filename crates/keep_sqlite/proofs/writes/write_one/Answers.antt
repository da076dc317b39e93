use Rattle.sqlite.specs.Held.{state}
use Rattle.sqlite.specs.State.{HasCleanDisk}
use Rattle.last_states.specs.Known.{known_of}
use Rattle.keep_sqlite.specs.Tables.{tables_of}
use Rattle.keep_sqlite.proofs.Clean.{clean_before}
use Rattle.keep_sqlite.proofs.Knowing.{knows_made}
use Rattle.keep_sqlite.proofs.writes.write_one.Goals as goal

pub write_known-requires-clause-stands : goal.write_known-requires-clause-stands
write_known-requires-clause-stands g c clean known e row is =
    c.forget-is_known.ensures.stood known
    (tables_of g.H.Filed.filing (state g.S.Store c.args.tx.now.conn.now).now.trees)
    (c.requires.known clean) e row is

pub returns-clause-known : goal.returns-clause-known
returns-clause-known g c clean =
    let f = g.H.Filed.filing in
    let old = state g.S.Store c.args.tx.now.conn.now in
    let new = state g.S.Store c.write_known.new.tx.conn.now in
    let early : HasCleanDisk old = clean_before _ _ c.write_known.ensures.survives.clean clean in
    let t = tables_of f old.now.trees in
    knows_made f c.args.change.now c.in_ok-count.count old new (known_of c.note.new.states)
    (c.in_ok-count.ensures.ok clean) (c.note.ensures t (c.forget-is_known.ensures.known t (c.requires.known early)))
