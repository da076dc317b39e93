use Rattle.sql_bodies.specs.Words.{account_phase_in}
use Rattle.keep_sqlite.specs.Holders.{shown_line}
use Rattle.keep_sqlite.proofs.Holders.{one_more_line}
use Rattle.keep_sqlite.proofs.accounts.lines_in.Goals as goal

pub loop-row-preserved : goal.loop-row-preserved
loop-row-preserved c =
    one_more_line (shown_line account_phase_in) c.args.rows.now c.loop-row.row-index c.row-item.result c.loop-row.lines
    c.put_line.new.lines c.loop-row-test.true c.row-item.is c.loop-row.invariant c.in_ok-put_line.ensures
