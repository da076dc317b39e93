use Rattle.sql_bodies.proofs.FirstVersion.{first_orders_are_exact, lines_are_refused}
use Rattle.sql_bodies.proofs.laws.first_orders_are_read_as_written.Goals as goal

pub returns-clause-orders : goal.returns-clause-orders
returns-clause-orders c = first_orders_are_exact

pub returns-clause-lines : goal.returns-clause-lines
returns-clause-lines c = lines_are_refused
