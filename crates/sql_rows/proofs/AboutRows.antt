-- What the texts on the table `about` mean and do.
use Rattle.std.proofs.Common.{◌≡◌, ◌≢◌, ℕ, pos, List, [], ◌∷◌, ◌++◌, codes, slice_get, Some, None, Ok, Err, Result}
use Rattle.std.proofs.Common.{OnOk, IfOk, arith, refl, sym, subst, ◌∙◌}
use Rattle.std.specs.List.{AllByRecursion}
use Rattle.sqlite.specs.declared.types.Value.TheVariants.{Null, Int, Text}
use Rattle.sqlite.specs.declared.error.Error.{Error}
use Rattle.sqlite.specs.Order.{Row}
use Rattle.sqlite.specs.Command.TheVariants.{Insert}
use Rattle.sqlite.specs.Source.TheVariants.{Values}
use Rattle.sqlite.specs.Schema.{Schema}
use Rattle.sqlite.specs.Listing.{understood}
use Rattle.sqlite.specs.State.{State, ExecutesInside, Shown as ShownAs}
use Rattle.sqlite.specs.Table.{Table}
use Rattle.sqlite.specs.Tree.{Trees}
use Rattle.sqlite_sql.specs.Query.{Query}
use Rattle.sqlite_sql.specs.Term.{Term, lit, col}
use Rattle.sqlite_tied.specs.Compute.{everything}
use Rattle.sqlite_value.specs.Order.{column}
use Rattle.sql_rows.specs.declared.service.Service.{Service}
use Rattle.sql_rows.specs.declared.service.Service.TheVariants.{Purchasing, Warehouse, Billing}
use Rattle.sql_rows.specs.Schema.{schema_of, purchasing, warehouse, billing, tables_of, common_tables, own_tables}
use Rattle.sql_rows.specs.Schema.{about, about_tree, name_of, AreMade, Makes, Founds}
use Rattle.sql_rows.specs.Tables.{IsRising, Adds, Edits, AreInOrder, by_position}
use Rattle.sql_rows.proofs.Steps.{Says}
use Rattle.sql_rows.proofs.Queries.{Asks, rows_of, every}
use Rattle.sql_rows.proofs.Tests.{cast_null, cast_int}
use Rattle.sql_rows.proofs.Edits.{added}
use Rattle.sql_rows.proofs.Selects.{shows_all}
use Rattle.sql_rows.proofs.Services.{idle}
use Rattle.sql_rows.proofs.Creates.{front, then_shows}
use Rattle.sql_rows.proofs.CreatingTexts.{made_of}

about_there : (service : Service) → slice_get (schema_of service).tables 7 ≡ Some (about (about_tree service))
about_there Purchasing = refl
about_there Warehouse = refl
about_there Billing = refl

abbrev pub insert : List ℕ
insert = codes "INSERT INTO about (version, service) VALUES (2, ?1)"

abbrev terms : List Term
terms = lit Null ∷ lit Null ∷ lit (Int (pos 2)) ∷ col 0 0 ∷ []

pub insert_says : (service : Service) → Says (schema_of service) insert (Insert 7 (Values terms 4))
unfolding understood everything
insert_says Purchasing = (refl, (refl, refl))
insert_says Warehouse = (refl, (refl, refl))
insert_says Billing = (refl, (refl, refl))

-- the write adds the row that names the service and the version
pub adds : (service : Service) (name : List ℕ) (old new : State) (result : Result ℕ Error)
    → old.now.schema ≡ schema_of service → IsRising (old.now.trees (about_tree service))
    → ExecutesInside 0 insert (Text name ∷ []) old new result
    → OnOk result (Edits (about_tree service) (Adds (Null ∷ Int (pos 2) ∷ Text name ∷ [])) old new)
adds service name old new result has rising h =
    added (schema_of service) 7 (about (about_tree service)) (about_there service) (idle service (about_tree service))
    old new has rising (Null ∷ Int (pos 2) ∷ Text name ∷ []) insert terms 4 (Text name ∷ [])
    (Null ∷ Null ∷ Int (pos 2) ∷ Text name ∷ []) (insert_says service) refl (rw (cast_null, cast_int (pos 2)) refl)
    result h

-- ---- the other tables are as empty as they were

pub apart : (service : Service) → AllByRecursion (λ t. t.tree ≢ about_tree service) (common_tables ++ own_tables service)
apart Purchasing = (
  λ e. omega (arith, e),
  (
    λ e. omega (arith, e),
    (
      λ e. omega (arith, e),
      (λ e. omega (arith, e), (λ e. omega (arith, e), (λ e. omega (arith, e), (λ e. omega (arith, e), tt)))),
    ),
  ),
)
apart Warehouse = (
  λ e. omega (arith, e),
  (
    λ e. omega (arith, e),
    (
      λ e. omega (arith, e),
      (λ e. omega (arith, e), (λ e. omega (arith, e), (λ e. omega (arith, e), (λ e. omega (arith, e), tt)))),
    ),
  ),
)
apart Billing = (
  λ e. omega (arith, e),
  (
    λ e. omega (arith, e),
    (
      λ e. omega (arith, e),
      (
        λ e. omega (arith, e),
        (λ e. omega (arith, e), (λ e. omega (arith, e), (λ e. omega (arith, e), tt))),
      ),
    ),
  ),
)

module _ (tree : ℕ) (old new : Trees) where
  still_empty : (tables : List Table) → AllByRecursion (λ t. t.tree ≢ tree → new t.tree ≡ old t.tree) tables
      → AllByRecursion (λ t. t.tree ≢ tree) tables → AllByRecursion (λ t. old t.tree ≡ []) tables
      → AllByRecursion (λ t. new t.tree ≡ []) tables
  still_empty [] same other none = tt
  still_empty (t ∷ tables) same other none = (same.0 other.0 ∙ none.0, still_empty tables same.1 other.1 none.1)

-- the last of a service's tables, and those before it
empty_about : (service : Service) (db : Trees) → AllByRecursion (λ t. db t.tree ≡ []) (schema_of service).tables
    → db (about_tree service) ≡ []
empty_about Purchasing db none = none.1.1.1.1.1.1.1.0
empty_about Warehouse db none = none.1.1.1.1.1.1.1.0
empty_about Billing db none = none.1.1.1.1.1.1.1.0

pub front_of : (service : Service) (P : Table → Type 0) → AllByRecursion P (schema_of service).tables
    → AllByRecursion P (common_tables ++ own_tables service)
front_of Purchasing P all = front P (common_tables ++ own_tables Purchasing) (about 14 ∷ []) all
front_of Warehouse P all = front P (common_tables ++ own_tables Warehouse) (about 13 ∷ []) all
front_of Billing P all = front P (common_tables ++ own_tables Billing) (about 13 ∷ []) all

-- with that row added to tables without rows, the tables of the service are made
pub founds : (service : Service) (old new : State) (result : Result ℕ Error) → AreMade (tables_of service) old.now
    → ExecutesInside 0 insert (Text (name_of service) ∷ []) old new result → OnOk result (Founds service old new)
founds service old new (Err e) made h = tt
founds service old new (Ok count) made h =
    let has = made.schema ∙ made_of service in
    let none : AllByRecursion (λ t. old.now.trees t.tree ≡ []) (schema_of service).tables = subst
    (λ (s : Schema). AllByRecursion (λ t. old.now.trees t.tree ≡ []) s.tables) (made_of service) made.empty in
    let here = empty_about service old.now.trees none in
    let it = adds service (name_of service) old new (Ok count) has
    (subst IsRising (sym here) (record { numbered = tt; ordered = tt })) h in
    let others : AllByRecursion (λ t. t.tree ≢ about_tree service → new.now.trees t.tree ≡ old.now.trees t.tree)
    (schema_of service).tables =
    subst (λ (s : Schema). AllByRecursion (λ t. t.tree ≢ about_tree service
    → new.now.trees t.tree ≡ old.now.trees t.tree) s.tables) has it.others in
    record {
      is_new = record {
        schema = it.same_schema ∙ has;
        empty = still_empty (about_tree service) old.now.trees new.now.trees (common_tables ++ own_tables service)
            (front_of service _ others) (apart service) (front_of service _ none);
        about = subst (λ rows. Adds (Null ∷ Int (pos 2) ∷ Text (name_of service) ∷ []) rows
            (new.now.trees (about_tree service))) here it.rows;
        sound = it.sound;
      };
      shown = it.shown;
    }

-- tables that are made, and then that row, are the tables of the service
pub then_founds : {service : Service} {tables : List Table} {old mid new : State} → Makes tables old mid
    → Founds service mid new → Founds service old new
then_founds a b = record { is_new = b.is_new; shown = then_shows a.shown b.shown }

-- ---- which service's tables they are

abbrev pub select : List ℕ
select = codes "SELECT version, service FROM about ORDER BY one"

abbrev pub versions : ℕ → Query
versions tree = rows_of tree [] (col 1 2 ∷ col 1 3 ∷ []) (col 1 0 ∷ []) every

-- the text asks for the version and the service of all rows of `about`
pub select_asks : (service : Service) → Asks (schema_of service) select (versions (about_tree service))
    (codes "version" ∷ codes "service" ∷ [])
unfolding understood everything
select_asks Purchasing = ((refl, (refl, refl)), refl)
select_asks Warehouse = ((refl, (refl, refl)), refl)
select_asks Billing = ((refl, (refl, refl)), refl)

abbrev AboutShown : Service → State → List Row → Type 0
AboutShown service old items = AreInOrder by_position None (λ x. column x 2 ∷ column x 3 ∷ [])
    (old.now.trees (about_tree service)) items

-- the query shows the version and the service of the file
pub reads : (service : Service) {X : Type 0} (items : X → List Row) (old new : State) (result : Result X Error)
    → old.now.schema ≡ schema_of service → IfOk result (λ v. ShownAs select [] old new (items v))
    → IfOk result (λ v. AboutShown service old (items v))
reads Purchasing items old new result has h =
    shows_all purchasing select 14 (versions 14) _ (select_asks Purchasing) refl refl refl refl refl [] by_position
    (λ x. column x 2 ∷ column x 3 ∷ []) None (λ a b. refl) (λ x. refl) refl old new has refl items result h
reads Warehouse items old new result has h =
    shows_all warehouse select 13 (versions 13) _ (select_asks Warehouse) refl refl refl refl refl [] by_position
    (λ x. column x 2 ∷ column x 3 ∷ []) None (λ a b. refl) (λ x. refl) refl old new has refl items result h
reads Billing items old new result has h =
    shows_all billing select 13 (versions 13) _ (select_asks Billing) refl refl refl refl refl [] by_position
    (λ x. column x 2 ∷ column x 3 ∷ []) None (λ a b. refl) (λ x. refl) refl old new has refl items result h
