use Rattle.std.proofs.Common.{arith, w64}
use Rattle.std.proofs.lemmas.Int.{to_z-of_z}
use Rattle.sqlite.specs.Held.{state}
use Rattle.sqlite.specs.State.{HasCleanDisk}
use Rattle.sql_rows.proofs.AccountRows.{puts_head}
use Rattle.sql_rows.proofs.accounts.put_account.Goals as goal

pub returns-clause-ok : goal.returns-clause-ok
returns-clause-ok g c clean =
    let old = state g.S.Store c.args.tx.now.conn.now in
    let early : HasCleanDisk old = omega (arith, c.write.ensures.survives.clean) in
    puts_head c.args.key.now c.args.limit_now c.args.billed c.args.held old (state g.S.Store c.write.new.tx.conn.now)
    c.write.result (c.requires.schema early) (c.requires.rising early)
    (rw (
      c.text.ensures,
      c.int.ensures,
      c.int-2.ensures,
      c.int-3.ensures,
      to_z-of_z w64 c.args.limit_now
          c.ranges.limit_now,
      to_z-of_z w64 c.args.billed c.ranges.billed,
      to_z-of_z w64 c.args.held c.ranges.held,
    ) at
    (c.write.ensures.runs clean))
