-- The texts that make the tables.
use Rattle.std.proofs.Common.{List, [], ◌∷◌, ◌++◌, ℕ, codes, false, refl, ◌≡◌}
use Rattle.sqlite.specs.Change.{created}
use Rattle.sqlite.specs.Does.{lacks_sequence}
use Rattle.sqlite.specs.Listing.{understood}
use Rattle.sqlite_tied.specs.Compute.{everything}
use Rattle.sql_rows.specs.declared.service.Service.{Service}
use Rattle.sql_rows.specs.declared.service.Service.TheVariants.{Purchasing, Warehouse, Billing}
use Rattle.sql_rows.specs.Schema.{schema_of, schema_with, own_tables, about_tree, tables_of, journal, outbox}
use Rattle.sql_rows.specs.Schema.{out_marks, in_marks, held, order_heads, order_lines, stocks, stock_lines, accounts}
use Rattle.sql_rows.specs.Schema.{account_lines, about, common_tables}
use Rattle.sql_rows.proofs.Creates.{Defines}

-- the schemas are those that the texts make
pub made_of : (service : Service) → schema_with (tables_of service) ≡ schema_of service
made_of Purchasing = refl
made_of Warehouse = refl
made_of Billing = refl

-- the schema of a service is that of its rows, with `about` after them
pub about_next : (service : Service) → schema_with (tables_of service)
    ≡ created (schema_with (common_tables ++ own_tables service)) (about (about_tree service))
about_next Purchasing = refl
about_next Warehouse = refl
about_next Billing = refl

-- no table of the schema needs a counter of rowids
pub about_uncounted : (service : Service)
    → lacks_sequence (created (schema_with (common_tables ++ own_tables service)) (about (about_tree service))) ≡ false
about_uncounted Purchasing = refl
about_uncounted Warehouse = refl
about_uncounted Billing = refl

abbrev pub create_journal : List ℕ
create_journal =
    codes "CREATE TABLE journal (pos INTEGER PRIMARY KEY, entity TEXT NOT NULL, seat INTEGER, sender TEXT, "
    ++ codes "number INTEGER, body TEXT NOT NULL) STRICT"

-- the text defines the table `journal`, as the first one
pub create_journal_defines : Defines (schema_with []) create_journal journal
unfolding understood everything
create_journal_defines = record { is = refl; whole = refl; plain = (refl, refl); defined = refl }

abbrev pub create_outbox : List ℕ
create_outbox =
    codes "CREATE TABLE outbox (sender TEXT NOT NULL, receiver TEXT NOT NULL, number INTEGER NOT NULL, "
    ++ codes "body TEXT NOT NULL, PRIMARY KEY (sender, receiver, number)) STRICT"

-- the text defines the table `outbox`, after `journal`
pub create_outbox_defines : Defines (schema_with (journal ∷ [])) create_outbox outbox
unfolding understood everything
create_outbox_defines = record { is = refl; whole = refl; plain = (refl, refl); defined = refl }

abbrev pub create_out_marks : List ℕ
create_out_marks =
    codes "CREATE TABLE out_marks (sender TEXT NOT NULL, receiver TEXT NOT NULL, sent INTEGER NOT NULL, "
    ++ codes "settled INTEGER NOT NULL CHECK (settled <= sent), PRIMARY KEY (sender, receiver)) STRICT"

-- the text defines the table `out_marks`, after `outbox`
pub create_out_marks_defines : Defines (schema_with (journal ∷ outbox ∷ [])) create_out_marks out_marks
unfolding understood everything
create_out_marks_defines = record { is = refl; whole = refl; plain = (refl, refl); defined = refl }

abbrev pub create_in_marks : List ℕ
create_in_marks =
    codes "CREATE TABLE in_marks (sender TEXT NOT NULL, receiver TEXT NOT NULL, handled INTEGER NOT NULL "
    ++ codes "CHECK (handled >= 0 AND handled <= 1099511627776), PRIMARY KEY (sender, receiver)) STRICT"

-- the text defines the table `in_marks`, after `out_marks`
pub create_in_marks_defines : Defines (schema_with (journal ∷ outbox ∷ out_marks ∷ [])) create_in_marks in_marks
unfolding understood everything
create_in_marks_defines = record { is = refl; whole = refl; plain = (refl, refl); defined = refl }

abbrev pub create_held : List ℕ
create_held =
    codes "CREATE TABLE held (sender TEXT NOT NULL, receiver TEXT NOT NULL, number INTEGER NOT NULL, "
    ++ codes "body TEXT NOT NULL, PRIMARY KEY (sender, receiver, number)) STRICT"

-- the text defines the table `held`, after `in_marks`
pub create_held_defines : Defines (schema_with (journal ∷ outbox ∷ out_marks ∷ in_marks ∷ [])) create_held held
unfolding understood everything
create_held_defines = record { is = refl; whole = refl; plain = (refl, refl); defined = refl }

abbrev pub create_order_heads : List ℕ
create_order_heads =
    codes "CREATE TABLE order_heads (key TEXT NOT NULL, account TEXT NOT NULL, amount INTEGER NOT NULL, "
    ++ codes "status TEXT NOT NULL, account_phase TEXT NOT NULL, PRIMARY KEY (key)) STRICT"

-- the text defines the table of orders' heads, after the common tables
pub create_order_heads_defines : Defines (schema_with common_tables) create_order_heads order_heads
unfolding understood everything
create_order_heads_defines = record { is = refl; whole = refl; plain = (refl, refl); defined = refl }

abbrev pub create_order_lines : List ℕ
create_order_lines =
    codes "CREATE TABLE order_lines (order_key TEXT NOT NULL REFERENCES order_heads (key), "
    ++ codes "line INTEGER NOT NULL CHECK (line >= 1 AND line <= 8), stock TEXT NOT NULL, n INTEGER NOT NULL, "
    ++ codes "phase TEXT NOT NULL, PRIMARY KEY (order_key, line), UNIQUE (order_key, stock)) STRICT"

-- the text defines the table of orders' lines, after that of their heads
pub create_order_lines_defines : Defines (schema_with (common_tables ++ order_heads ∷ [])) create_order_lines
    order_lines
unfolding understood everything
create_order_lines_defines = record { is = refl; whole = refl; plain = (refl, refl); defined = refl }

abbrev pub create_stocks : List ℕ
create_stocks =
    codes "CREATE TABLE stocks (key TEXT NOT NULL, on_hand INTEGER NOT NULL, held INTEGER NOT NULL, "
    ++ codes "shipped INTEGER NOT NULL, received INTEGER NOT NULL, PRIMARY KEY (key)) STRICT"

-- the text defines the table of stocks, after the common tables
pub create_stocks_defines : Defines (schema_with common_tables) create_stocks stocks
unfolding understood everything
create_stocks_defines = record { is = refl; whole = refl; plain = (refl, refl); defined = refl }

abbrev pub create_stock_lines : List ℕ
create_stock_lines =
    codes "CREATE TABLE stock_lines (stock TEXT NOT NULL REFERENCES stocks (key), order_key TEXT NOT NULL, "
    ++ codes "n INTEGER NOT NULL, phase TEXT NOT NULL, PRIMARY KEY (stock, order_key)) STRICT"

-- the text defines the table of stocks' lines, after that of stocks
pub create_stock_lines_defines : Defines (schema_with (common_tables ++ stocks ∷ [])) create_stock_lines stock_lines
unfolding understood everything
create_stock_lines_defines = record { is = refl; whole = refl; plain = (refl, refl); defined = refl }

abbrev pub create_accounts : List ℕ
create_accounts =
    codes "CREATE TABLE accounts (key TEXT NOT NULL, limit_now INTEGER NOT NULL, billed INTEGER NOT NULL, "
    ++ codes "held INTEGER NOT NULL, PRIMARY KEY (key)) STRICT"

-- the text defines the table of accounts, after the common tables
pub create_accounts_defines : Defines (schema_with common_tables) create_accounts accounts
unfolding understood everything
create_accounts_defines = record { is = refl; whole = refl; plain = (refl, refl); defined = refl }

abbrev pub create_account_lines : List ℕ
create_account_lines =
    codes "CREATE TABLE account_lines (account TEXT NOT NULL REFERENCES accounts (key), order_key TEXT NOT NULL, "
    ++ codes "n INTEGER NOT NULL, phase TEXT NOT NULL, PRIMARY KEY (account, order_key)) STRICT"

-- the text defines the table of accounts' lines, after that of accounts
pub create_account_lines_defines : Defines (schema_with (common_tables ++ accounts ∷ [])) create_account_lines
    account_lines
unfolding understood everything
create_account_lines_defines = record { is = refl; whole = refl; plain = (refl, refl); defined = refl }

abbrev pub create_about : List ℕ
create_about =
    codes "CREATE TABLE about (one INTEGER PRIMARY KEY CHECK (one = 1), version INTEGER NOT NULL, "
    ++ codes "service TEXT NOT NULL) STRICT"

-- the text defines the table `about`, after all others
pub create_about_defines : (service : Service)
    → Defines (schema_with (common_tables ++ own_tables service)) create_about (about (about_tree service))
unfolding understood everything
create_about_defines Purchasing = record { is = refl; whole = refl; plain = (refl, refl); defined = refl }
create_about_defines Warehouse = record { is = refl; whole = refl; plain = (refl, refl); defined = refl }
create_about_defines Billing = record { is = refl; whole = refl; plain = (refl, refl); defined = refl }
