use Rattle.std.proofs.Common.{arith, ◌++◌}
use Rattle.sqlite.specs.Held.{state}
use Rattle.sqlite.specs.State.{HasCleanDisk}
use Rattle.sql_rows.specs.Schema.{about, about_tree, common_tables, own_tables}
use Rattle.sql_rows.proofs.Creates.{creates}
use Rattle.sql_rows.proofs.CreatingTexts.{about_next, about_uncounted, create_about, create_about_defines}
use Rattle.sql_rows.proofs.about.create_about.Goals as goal

pub returns-clause-ok : goal.returns-clause-ok
returns-clause-ok g c clean =
    let old = state g.S.Store c.args.tx.now.conn.now in
    let service = c.args._service in
    let early : HasCleanDisk old = omega (arith, c.write.ensures.survives.clean) in
    creates (common_tables ++ own_tables service) (about (about_tree service)) create_about
    (create_about_defines service) (about_next service) (about_uncounted service) old
    (state g.S.Store c.write.new.tx.conn.now) c.write.result (c.requires.made early) (c.write.ensures.runs clean)

pub returns-clause-on : goal.returns-clause-on
returns-clause-on g c = record { kept = c.write.ensures.kept; survives = c.write.ensures.survives }
