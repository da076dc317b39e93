use Rattle.std.proofs.Common.{arith}
use Rattle.sqlite.specs.Held.{state}
use Rattle.sqlite.specs.State.{HasCleanDisk}
use Rattle.sql_rows.proofs.AboutRows.{founds}
use Rattle.sql_rows.proofs.about.add_about.Goals as goal

pub returns-clause-ok : goal.returns-clause-ok
returns-clause-ok g c clean =
    let old = state g.S.Store c.args.tx.now.conn.now in
    let early : HasCleanDisk old = omega (arith, c.write.ensures.survives.clean) in
    founds c.args.service old (state g.S.Store c.write.new.tx.conn.now) c.write.result (c.requires.made early)
    (rw (c.text.ensures, c.name.ensures) at (c.write.ensures.runs clean))

pub returns-clause-on : goal.returns-clause-on
returns-clause-on g c = record { kept = c.write.ensures.kept; survives = c.write.ensures.survives }
