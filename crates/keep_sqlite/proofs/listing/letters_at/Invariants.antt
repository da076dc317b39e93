use Rattle.std.proofs.Common.{take}
use Rattle.std.specs.List.{AllZip}
use Rattle.keep_sqlite.specs.Listing.{IsLetterAt}
use Rattle.keep_sqlite.proofs.listing.letters_at.Given as goal

abbrev pub invariant-loop-row : goal.invariant-loop-row
invariant-loop-row l = AllZip IsLetterAt (take l.row-index l.rows) l.letters.items
