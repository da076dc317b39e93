use Rattle.std.proofs.Common.{◌∙◌}
use Rattle.keep_sqlite.specs.Tables.{shown_row}
use Rattle.keep_sqlite.proofs.Journals.{one_more_read}
use Rattle.keep_sqlite.proofs.journal.rows_at.Goals as goal

pub loop-row-preserved : goal.loop-row-preserved
loop-row-preserved g c =
    c.in_ok-push.ensures.items
    ∙ one_more_read (shown_row g.H.Filed.filing) c.args.rows.now c.loop-row.row-index c.row-item.result
    c.loop-row.entries.items c.in_ok-entry.entry c.loop-row-test.true c.row-item.is c.loop-row.invariant
    c.in_ok-entry.ensures
