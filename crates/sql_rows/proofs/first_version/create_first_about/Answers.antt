use Rattle.std.proofs.Common.{arith, refl, ◌++◌, ◌∷◌, []}
use Rattle.sqlite.specs.Held.{state}
use Rattle.sqlite.specs.State.{HasCleanDisk}
use Rattle.sql_rows.specs.FirstVersion.{orders}
use Rattle.sql_rows.specs.Schema.{about, common_tables}
use Rattle.sql_rows.proofs.Creates.{creates}
use Rattle.sql_rows.proofs.CreatingTexts.{create_about}
use Rattle.sql_rows.proofs.FirstVersionRows.{create_about_defines}
use Rattle.sql_rows.proofs.first_version.create_first_about.Goals as goal

pub returns-clause-ok : goal.returns-clause-ok
returns-clause-ok g c clean =
    let old = state g.S.Store c.args.tx.now.conn.now in
    let early : HasCleanDisk old = omega (arith, c.write.ensures.survives.clean) in
    creates (common_tables ++ orders ∷ []) (about 11) create_about create_about_defines refl refl old
    (state g.S.Store c.write.new.tx.conn.now) c.write.result (c.requires.made early) (c.write.ensures.runs clean)

pub returns-clause-on : goal.returns-clause-on
returns-clause-on g c = record { kept = c.write.ensures.kept; survives = c.write.ensures.survives }
