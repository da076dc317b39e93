use Rattle.std.proofs.Common.{[]}
use Rattle.sql_bodies.specs.LineRows.{line_from}
use Rattle.sql_bodies.specs.Words.{stock_phase_in, account_phase_in}
use Rattle.sql_bodies.proofs.LineRows.{lines_shuffled, of_order}
use Rattle.sql_bodies.proofs.OrderRows.{stocks_shuffled}
use Rattle.sql_bodies.proofs.laws.rows_are_read_in_any_order.Goals as goal

pub returns-clause-stocks : goal.returns-clause-stocks
returns-clause-stocks c = λ xs ys shuffled. stocks_shuffled (λ r. r.0) (λ r. r.1) xs ys shuffled

pub returns-clause-stock_lines : goal.returns-clause-stock_lines
returns-clause-stock_lines c = λ xs ys shuffled. lines_shuffled (λ r. line_from (stock_phase_in r.2) r.0 r.1)
    (λ r l e. of_order (stock_phase_in r.2) r.0 r.1 l e) xs ys [] shuffled

pub returns-clause-account_lines : goal.returns-clause-account_lines
returns-clause-account_lines c = λ xs ys shuffled. lines_shuffled (λ r. line_from (account_phase_in r.2) r.0 r.1)
    (λ r l e. of_order (account_phase_in r.2) r.0 r.1 l e) xs ys [] shuffled
