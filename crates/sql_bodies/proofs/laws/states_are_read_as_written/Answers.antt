use Rattle.sql_bodies.proofs.LineRows.{stock_lines_back, account_lines_back}
use Rattle.sql_bodies.proofs.OrderRows.{order_back}
use Rattle.sql_bodies.proofs.laws.states_are_read_as_written.Goals as goal

pub returns-clause-orders : goal.returns-clause-orders
returns-clause-orders c = order_back

pub returns-clause-stock_lines : goal.returns-clause-stock_lines
returns-clause-stock_lines c = stock_lines_back

pub returns-clause-account_lines : goal.returns-clause-account_lines
returns-clause-account_lines c = account_lines_back
