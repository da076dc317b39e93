use Rattle.std.proofs.Common.{arith}
use Rattle.sqlite.specs.Held.{state}
use Rattle.sqlite.specs.State.{HasCleanDisk}
use Rattle.sql_rows.proofs.AboutRows.{adds}
use Rattle.sql_rows.specs.Schema.{name_of}
use Rattle.sql_rows.proofs.replaced_tables.tell_version.Goals as goal

pub returns-clause-ok : goal.returns-clause-ok
returns-clause-ok g c clean =
    let old = state g.S.Store c.args.tx.now.conn.now in
    let early : HasCleanDisk old = omega (arith, c.write.ensures.survives.clean) in
    adds c.args.service (name_of c.args.service) old (state g.S.Store c.write.new.tx.conn.now) c.write.result
    (c.requires.schema early) (c.requires.rising early)
    (rw (c.text.ensures, c.name.ensures) at (c.write.ensures.runs clean))
