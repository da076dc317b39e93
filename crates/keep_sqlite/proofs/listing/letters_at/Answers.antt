use Rattle.std.proofs.Common.{sym, subst, take, ◌+◌}
use Rattle.std.specs.List.{AllZip}
use Rattle.keep_sqlite.specs.Listing.{IsLetterAt}
use Rattle.keep_sqlite.proofs.Letters.{one_more_told}
use Rattle.keep_sqlite.proofs.listing.letters_at.Goals as goal

pub loop-row-preserved : goal.loop-row-preserved
loop-row-preserved c =
    let rows = c.args.rows.now in
    let at = c.loop-row.row-index in
    subst (AllZip IsLetterAt (take (at + 1) rows)) (sym c.in_ok-push.ensures.items)
    (one_more_told IsLetterAt rows at c.row-item.result c.loop-row.letters.items c.in_ok-letter.letter
    c.loop-row-test.true c.row-item.is c.loop-row.invariant c.in_ok-letter.ensures)
