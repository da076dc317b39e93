use Rattle.sql_bodies.proofs.Written.{orders_are_exact, stocks_are_exact, accounts_are_exact}
use Rattle.sql_bodies.proofs.laws.commands_are_read_as_written.Goals as goal

pub returns-clause-orders : goal.returns-clause-orders
returns-clause-orders c = orders_are_exact

pub returns-clause-stocks : goal.returns-clause-stocks
returns-clause-stocks c = stocks_are_exact

pub returns-clause-accounts : goal.returns-clause-accounts
returns-clause-accounts c = accounts_are_exact
