use Rattle.std.proofs.Common.{◌≡◌}
use Rattle.sqlite.specs.Held.{state}
use Rattle.keep_sqlite.proofs.JournalRenewal.{IsRenewing}
use Rattle.keep_sqlite.proofs.journal_renewal.renew_rows.Given as goal

abbrev pub invariant-loop-index : goal.invariant-loop-index
invariant-loop-index g l =
    (l.tx.conn.ghost_name ≡ l.fn.tx.conn.ghost_name)
    × IsRenewing l.index (state g.S.Store l.fn.tx.conn.now) (state g.S.Store l.tx.conn.now)
