use Rattle.std.proofs.Common.{arith}
use Rattle.sqlite.specs.Held.{state}
use Rattle.sqlite.specs.State.{HasCleanDisk}
use Rattle.sql_rows.proofs.AccountRows.{takes_line}
use Rattle.sql_rows.proofs.accounts.take_account_line.Goals as goal

pub returns-clause-ok : goal.returns-clause-ok
returns-clause-ok g c clean =
    let old = state g.S.Store c.args.tx.now.conn.now in
    let early : HasCleanDisk old = omega (arith, c.write.ensures.survives.clean) in
    takes_line c.args.account.now c.args.order.now old (state g.S.Store c.write.new.tx.conn.now) c.write.result
    (c.requires.schema early) (c.requires.rising early)
    (rw (c.text.ensures, c.text-2.ensures) at (c.write.ensures.runs clean))
