use Rattle.std.proofs.Common.{arith}
use Rattle.sqlite.specs.Held.{state}
use Rattle.sqlite.specs.State.{HasCleanDisk}
use Rattle.sql_rows.proofs.FirstVersionTables.{rebuilds_about}
use Rattle.sql_rows.proofs.replaced_tables.rebuild_about.Goals as goal

pub returns-clause-ok : goal.returns-clause-ok
returns-clause-ok g c clean =
    let old = state g.S.Store c.args.tx.now.conn.now in
    let early : HasCleanDisk old = omega (arith, c.write.ensures.survives.clean) in
    rebuilds_about old (state g.S.Store c.write.new.tx.conn.now) c.write.result
    (c.requires.schema early) (c.write.ensures.runs clean)
