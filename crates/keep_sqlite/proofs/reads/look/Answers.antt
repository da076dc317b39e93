use Rattle.sqlite.specs.Held.{state}
use Rattle.sqlite.specs.State.{HasCleanDisk}
use Rattle.sql_rows.proofs.Stays.{prepared_stays}
use Rattle.keep_sqlite.proofs.Clean.{clean_before}
use Rattle.keep_sqlite.proofs.Looks.{looks_true}
use Rattle.keep_sqlite.proofs.reads.look.Goals as goal

pub returns-clause-is_open : goal.returns-clause-is_open
returns-clause-is_open g c clean = rw c.told_by.ensures.told
    ((looks_true (state g.S.Store c.args.conn.now) (state g.S.Store c.prepare.new.self) _ _ c.prepare.result
    (c.prepare.ensures.ok clean) (c.prepare.ensures.err clean)).0)

pub returns-clause-shut : goal.returns-clause-shut
returns-clause-shut g c clean is =
    (looks_true (state g.S.Store c.args.conn.now) (state g.S.Store c.prepare.new.self) _ _ c.prepare.result
    (c.prepare.ensures.ok clean) (c.prepare.ensures.err clean)).1 (rw c.told_by.ensures.told at is)

pub returns-clause-stays : goal.returns-clause-stays
returns-clause-stays g c clean =
    let early : HasCleanDisk (state g.S.Store c.args.conn.now) = clean_before _ _ c.prepare.ensures.survives.clean clean in
    prepared_stays (state g.S.Store c.args.conn.now) (state g.S.Store c.prepare.new.self) (c.requires.settled early)
    _ _ c.prepare.result (c.prepare.ensures.ok clean) (c.prepare.ensures.err clean)
