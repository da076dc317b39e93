use Rattle.std.proofs.Common.{◌≡◌, take, Some}
use Rattle.sql_bodies.specs.Words.{stock_phase_in}
use Rattle.keep_sqlite.specs.Holders.{lines_in, shown_line}
use Rattle.keep_sqlite.proofs.stocks.lines_in.Given as goal

abbrev pub invariant-loop-row : goal.invariant-loop-row
invariant-loop-row l = lines_in (shown_line stock_phase_in) (take l.row-index l.rows) ≡ Some l.lines
