use Rattle.sqlite.specs.Held.{state}
use Rattle.sqlite.specs.State.{HasCleanDisk}
use Rattle.keep_sqlite.proofs.Clean.{clean_before}
use Rattle.keep_sqlite.proofs.JournalRenewal.{journal_renewed}
use Rattle.keep_sqlite.proofs.journal_renewal.renew_journal.Goals as goal

pub returns-clause-ok : goal.returns-clause-ok
returns-clause-ok g c clean =
    let old = state g.S.Store c.args.tx.now.conn.now in
    let mid = state g.S.Store c.count_journal.new.tx.conn.now in
    let new = state g.S.Store c.renew_rows.new.tx.conn.now in
    let before : HasCleanDisk mid = clean_before _ _ c.renew_rows.ensures.survives.clean clean in
    let first : HasCleanDisk old = clean_before _ _ c.count_journal.ensures.survives.clean before in
    let counted = c.in_ok-count.ensures.counted before in
    journal_renewed c.in_ok-count.count old mid new (c.requires.schema first) (c.requires.rising first)
    (c.requires.sound first) (c.requires.inside first) (c.in_ok-count.ensures.ok before) counted.0 counted.1
    (c.in_ok-renew_rows.ensures.ok clean)
