use Rattle.std.proofs.Common.{arith}
use Rattle.sqlite.specs.Held.{state}
use Rattle.sqlite.specs.State.{HasCleanDisk}
use Rattle.sql_rows.proofs.FirstVersionTables.{tells_anew}
use Rattle.sql_rows.proofs.replaced_tables.set_version.Goals as goal

pub returns-clause-ok : goal.returns-clause-ok
returns-clause-ok g c clean =
    let mid = state g.S.Store c.forget_version.new.tx.conn.now in
    let early : HasCleanDisk mid = omega (arith, c.tell_version.ensures.on.survives.clean) in
    tells_anew c.args.service (state g.S.Store c.args.tx.now.conn.now) mid
    (state g.S.Store c.tell_version.new.tx.conn.now) c.tell_version.result (c.in_ok-forget_version.ensures.ok early)
    (c.tell_version.ensures.ok clean)
