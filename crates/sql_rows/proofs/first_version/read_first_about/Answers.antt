use Rattle.std.proofs.Common.{arith}
use Rattle.sqlite.specs.Held.{state}
use Rattle.sqlite.specs.State.{HasCleanDisk}
use Rattle.sql_rows.proofs.AboutRows.{select}
use Rattle.sql_rows.proofs.FirstVersionRows.{select_about_asks, reads_about}
use Rattle.sql_rows.proofs.Services.{plain_at}
use Rattle.sql_rows.proofs.first_version.read_first_about.Goals as goal

pub read-requires-clause-plain : goal.read-requires-clause-plain
read-requires-clause-plain g c clean = plain_at select (select_about_asks c.args.service).0.1 _
    (c.requires.schema clean)

pub returns-clause-rows : goal.returns-clause-rows
returns-clause-rows g c clean =
    let old = state g.S.Store c.args.conn.now in
    let early : HasCleanDisk old = omega (arith, c.read.ensures.clean) in
    reads_about c.args.service (λ v. v.items) old (state g.S.Store c.read.new.conn) c.read.result
    (c.requires.schema early) (c.read.ensures.shown clean)
