use Rattle.std.proofs.Common.{arith, w64}
use Rattle.std.proofs.lemmas.Int.{to_z-of_z}
use Rattle.sqlite.specs.Held.{state}
use Rattle.sqlite.specs.State.{HasCleanDisk}
use Rattle.sql_rows.proofs.JournalBodies.{rebodies}
use Rattle.sql_rows.proofs.journal_bodies.set_body.Goals as goal

pub returns-clause-ok : goal.returns-clause-ok
returns-clause-ok g c clean =
    let old = state g.S.Store c.args.tx.now.conn.now in
    let early : HasCleanDisk old = omega (arith, c.write.ensures.survives.clean) in
    rebodies c.args.position c.args.body.now old (state g.S.Store c.write.new.tx.conn.now) c.write.result
    (c.requires.schema early) (c.requires.rising early) (c.requires.sound early)
    (rw (c.int.ensures, c.text.ensures, to_z-of_z w64 c.args.position c.ranges.position) at (c.write.ensures.runs clean))
