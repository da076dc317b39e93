-- How accounts stand in the rows of billing: a head each, and a line for each order.
use Rattle.std.specs.Prelude.{ℕ, ◌+◌, pos, Bool, true, false, List, [], ◌∷◌, refl}
use Rattle.sqlite.specs.declared.types.Value.TheVariants.{Int, Text}
use Rattle.sqlite_value.specs.Order.{Row, column}
use Rattle.base.specs.declared.entity.Kind.{Kind}
use Rattle.base.specs.declared.entity.Kind.TheVariants as kind
use Rattle.trade.specs.Lines.{Line}
use Rattle.trade.specs.Accounts.{AccountState}
use Rattle.trade.specs.declared.commands.AccountCommand.{AccountCommand}
use Rattle.sql_bodies.specs.Reading.{read_account_command}
use Rattle.sql_bodies.specs.Words.{account_phase_in}
use Rattle.sql_rows.specs.Schema.{billing}
use Rattle.sql_rows.specs.Tables.{Cells}
use Rattle.sql_rows.specs.declared.service.Service.TheVariants.{Billing}
use Rattle.keep_sqlite.specs.Filing.{Filing}
use Rattle.keep_sqlite.specs.Tables.{number_in}
use Rattle.keep_sqlite.specs.Holders.{Holders, holder_in, no_holder}

abbrev pub is_account : Kind → Bool
is_account kind.Account = true
is_account _ = false

-- the account whose numbers stand from this column on
abbrev pub account_from : ℕ → Row → List Line → AccountState
account_from at r lines = record {
  limit = number_in (column r at);
  billed = number_in (column r (at + 1));
  held = number_in (column r (at + 2));
  lines = lines;
}

-- the columns of a head behind its rowid
abbrev pub account_cells : List ℕ → AccountState → Cells
account_cells key x = Text key ∷ Int (pos x.limit) ∷ Int (pos x.billed) ∷ Int (pos x.held) ∷ []

abbrev pub account_rows : Holders AccountState
account_rows = record { is_one = is_account; state = account_from 2; phase_in = account_phase_in }

abbrev pub accounts : Filing AccountState AccountCommand
accounts = record {
  schema = billing;
  entity = λ db e. holder_in account_rows e (db 9) (db 11);
  command = read_account_command;
  is_service = record { service = Billing; is = refl };
  apart = (refl, (refl, (refl, tt)));
  depends = λ old new kept i e. holder_in account_rows e (kept.0 i) (kept.1.0 i);
  nothing = λ db none e. no_holder account_rows e (db 9) (db 11) none.0;
}
