use Rattle.std.proofs.Common.{arith, w64}
use Rattle.std.proofs.lemmas.Int.{to_z-of_z}
use Rattle.sqlite.specs.Held.{state}
use Rattle.sqlite.specs.State.{HasCleanDisk}
use Rattle.sql_rows.proofs.OutboxRows.{select_first, select_first_asks, reads_first}
use Rattle.sql_rows.proofs.Services.{plain_in}
use Rattle.sql_rows.proofs.outbox.read_letters.Goals as goal

pub read-requires-clause-plain : goal.read-requires-clause-plain
read-requires-clause-plain g c clean = plain_in select_first (λ service. (select_first_asks service).0.1) _
    (c.requires.schema clean)

pub returns-clause-rows : goal.returns-clause-rows
returns-clause-rows g c clean =
    let old = state g.S.Store c.args.conn.now in
    let early : HasCleanDisk old = omega (arith, c.read.ensures.clean) in
    reads_first c.args.limit (λ v. v.items) old (state g.S.Store c.read.new.conn) c.read.result
    (c.requires.schema early)
    (rw (c.int.ensures, to_z-of_z w64 c.args.limit c.ranges.limit) at (c.read.ensures.shown clean))
