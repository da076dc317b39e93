-- What the texts on the tables of version 1 mean and do.
use Rattle.std.proofs.Common.{◌≡◌, List, [], ◌∷◌, ◌++◌, ℕ, codes, None, Result, IfOk, refl}
use Rattle.sqlite.specs.declared.error.Error.{Error}
use Rattle.sqlite.specs.Listing.{understood}
use Rattle.sqlite.specs.Order.{Row}
use Rattle.sqlite.specs.State.{State, Shown as ShownAs}
use Rattle.sqlite_sql.specs.Query.{Query}
use Rattle.sqlite_sql.specs.Term.{col}
use Rattle.sqlite_tied.specs.Compute.{everything}
use Rattle.sqlite_value.specs.Order.{column}
use Rattle.sql_rows.specs.declared.service.Service.{Service}
use Rattle.sql_rows.specs.declared.service.Service.TheVariants.{Purchasing, Warehouse, Billing}
use Rattle.sql_rows.specs.FirstVersion.{first_about_tree, first_purchasing, first_schema_of, orders}
use Rattle.sql_rows.specs.Schema.{about, billing, common_tables, schema_with, warehouse}
use Rattle.sql_rows.specs.Tables.{AreInOrder, by_position, by_text}
use Rattle.sql_rows.proofs.AboutRows.{select, versions}
use Rattle.sql_rows.proofs.Creates.{Defines}
use Rattle.sql_rows.proofs.CreatingTexts.{create_about}
use Rattle.sql_rows.proofs.Queries.{Asks, every, rows_of}
use Rattle.sql_rows.proofs.Selects.{shows_all}

-- ---- how they are made

abbrev pub create_orders : List ℕ
create_orders =
    codes "CREATE TABLE orders (key TEXT NOT NULL, stock TEXT NOT NULL, n INTEGER NOT NULL, account TEXT NOT NULL, "
    ++ codes "amount INTEGER NOT NULL, status TEXT NOT NULL, stock_phase TEXT NOT NULL, account_phase TEXT NOT NULL, "
    ++ codes "PRIMARY KEY (key)) STRICT"

-- the text defines the table of orders that version 1 had, after the common tables
pub create_orders_defines : Defines (schema_with common_tables) create_orders orders
unfolding understood everything
create_orders_defines = record { is = refl; whole = refl; plain = (refl, refl); defined = refl }

-- the text defines the table `about` of version 1, after that of orders
pub create_about_defines : Defines (schema_with (common_tables ++ orders ∷ [])) create_about (about 11)
unfolding understood everything
create_about_defines = record { is = refl; whole = refl; plain = (refl, refl); defined = refl }

-- the schema is the one that the texts make
pub made_first : schema_with (common_tables ++ orders ∷ about 11 ∷ []) ≡ first_purchasing
made_first = refl

-- ---- which service's tables they are

-- over the schema of version 1 too the text asks for the version and the service
pub select_about_asks : (service : Service)
    → Asks (first_schema_of service) select (versions (first_about_tree service))
    (codes "version" ∷ codes "service" ∷ [])
unfolding understood everything
select_about_asks Purchasing = ((refl, (refl, refl)), refl)
select_about_asks Warehouse = ((refl, (refl, refl)), refl)
select_about_asks Billing = ((refl, (refl, refl)), refl)

-- the query shows the version and the service of a file of version 1
pub reads_about : (service : Service) {X : Type 0} (items : X → List Row) (old new : State) (result : Result X Error)
    → old.now.schema ≡ first_schema_of service → IfOk result (λ v. ShownAs select [] old new (items v))
    → IfOk result (λ v. AreInOrder by_position None (λ x. column x 2 ∷ column x 3 ∷ [])
    (old.now.trees (first_about_tree service)) (items v))
reads_about Purchasing items old new result has h =
    shows_all first_purchasing select 11 (versions 11) _ (select_about_asks Purchasing) refl refl refl refl refl []
    by_position (λ x. column x 2 ∷ column x 3 ∷ []) None (λ a b. refl) (λ x. refl) refl old new has refl items result h
reads_about Warehouse items old new result has h =
    shows_all warehouse select 13 (versions 13) _ (select_about_asks Warehouse) refl refl refl refl refl []
    by_position (λ x. column x 2 ∷ column x 3 ∷ []) None (λ a b. refl) (λ x. refl) refl old new has refl items result h
reads_about Billing items old new result has h =
    shows_all billing select 13 (versions 13) _ (select_about_asks Billing) refl refl refl refl refl []
    by_position (λ x. column x 2 ∷ column x 3 ∷ []) None (λ a b. refl) (λ x. refl) refl old new has refl items result h

-- ---- the orders

abbrev pub select_orders : List ℕ
select_orders =
    codes "SELECT key, stock, n, account, amount, status, stock_phase, account_phase FROM orders ORDER BY key"

abbrev shown_order : Row → Row
shown_order x =
    column x 1 ∷ column x 2 ∷ column x 3 ∷ column x 4 ∷ column x 5 ∷ column x 6 ∷ column x 7 ∷ column x 8 ∷ []

abbrev all_orders : Query
all_orders = rows_of 9 []
    (col 1 1 ∷ col 1 2 ∷ col 1 3 ∷ col 1 4 ∷ col 1 5 ∷ col 1 6 ∷ col 1 7 ∷ col 1 8 ∷ []) (col 1 1 ∷ []) every

-- the text asks for all orders of version 1, in order of their keys
pub select_orders_asks : Asks first_purchasing select_orders all_orders
    (codes "key" ∷ codes "stock" ∷ codes "n" ∷ codes "account" ∷ codes "amount" ∷ codes "status"
    ∷ codes "stock_phase" ∷ codes "account_phase" ∷ [])
unfolding understood everything
select_orders_asks = ((refl, (refl, refl)), refl)

-- the query shows all orders of version 1, in order of their keys
pub reads_orders : {X : Type 0} (items : X → List Row) (old new : State) (result : Result X Error)
    → old.now.schema ≡ first_purchasing → IfOk result (λ v. ShownAs select_orders [] old new (items v))
    → IfOk result (λ v. AreInOrder by_text None (λ x. column x 1 ∷ column x 2 ∷ column x 3 ∷ column x 4 ∷ column x 5
    ∷ column x 6 ∷ column x 7 ∷ column x 8 ∷ []) (old.now.trees 9) (items v))
reads_orders items old new result has h =
    shows_all first_purchasing select_orders 9 all_orders _ select_orders_asks refl refl refl refl refl []
    by_text shown_order None (λ a b. refl) (λ x. refl) refl old new has refl items result h
