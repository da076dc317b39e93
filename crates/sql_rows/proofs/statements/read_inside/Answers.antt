use Rattle.std.proofs.Common.{arith}
use Rattle.sqlite.specs.Held.{state}
use Rattle.sqlite.specs.State.{HasCleanDisk}
use Rattle.sql_rows.proofs.Stays.{looked_keeps, looked_same}
use Rattle.sql_rows.proofs.statements.read_inside.Goals as goal

pub returns-clause-ok : goal.returns-clause-ok
returns-clause-ok g c clean =
    let old = state g.S.Store c.args.tx.now.conn.now in
    let early : HasCleanDisk old = omega (arith, c.query_all.ensures.survives.clean) in
    looked_same old (state g.S.Store c.query_all.new.self.conn.now) _ _ (c.requires.plain early) (λ v. v.items)
    c.query_all.result (c.query_all.ensures.ok clean)

pub returns-clause-kept : goal.returns-clause-kept
returns-clause-kept g c clean =
    let old = state g.S.Store c.args.tx.now.conn.now in
    let early : HasCleanDisk old = omega (arith, c.query_all.ensures.survives.clean) in
    looked_keeps old (state g.S.Store c.query_all.new.self.conn.now) _ _ (c.requires.plain early) (λ v. v.items)
    c.query_all.result (c.query_all.ensures.ok clean) (c.query_all.ensures.err clean)
