-- What DROP TABLE and CREATE TABLE make of tables that have rows.
use Rattle.std.proofs.Common.{◌≡◌, ◌≢◌, ℕ, pos, List, [], ◌∷◌, ◌++◌, slice_get, true, false, true≢false, Some, None}
use Rattle.std.proofs.Common.{Ok, Err, Result, OnOk, codes, refl, sym, ap, subst, ◌∙◌, inl}
use Rattle.std.proofs.lemmas.List.{append_assoc}
use Rattle.std.specs.List.{AllByRecursion}
use Rattle.sqlite.specs.declared.types.Value.TheVariants.{Null, Int, Text}
use Rattle.sqlite.specs.declared.error.Error.{Error}
use Rattle.sqlite.specs.Order.{Row}
use Rattle.sqlite.specs.Change.{created, next_tree, without_table, KeepsRows}
use Rattle.sqlite.specs.Command.TheVariants.{Delete, DropTable}
use Rattle.sqlite.specs.Does.{Tally, Does, AtPlace, Drops, Empties, is_acted_on, lacks_sequence}
use Rattle.sqlite.specs.Effect.{Database}
use Rattle.sqlite.specs.Listing.{understood}
use Rattle.sqlite.specs.Rows.{Task}
use Rattle.sqlite.specs.Schema.{Schema}
use Rattle.sqlite.specs.State.{State, ExecutesInside, mode_of}
use Rattle.sqlite.specs.Table.{Table}
use Rattle.sqlite.specs.Tree.{Trees}
use Rattle.sqlite.proofs.Callers.{statement_of, runs_as}
use Rattle.sqlite_schema.specs.declared.schema.Keys.TheVariants.{Enforced}
use Rattle.sqlite_tied.specs.Compute.{everything}
use Rattle.sql_rows.specs.declared.service.Service.{Service}
use Rattle.sql_rows.specs.declared.service.Service.TheVariants.{Purchasing, Warehouse, Billing}
use Rattle.sql_rows.specs.FirstVersion.{Rebuilds, IsReplaced, IsTold, first_purchasing, orders}
use Rattle.sql_rows.specs.Schema.{about, about_tree, common_tables, name_of, order_heads, order_lines, own_tables}
use Rattle.sql_rows.specs.Schema.{purchasing, schema_of, schema_with}
use Rattle.sql_rows.specs.Tables.{Adds, Edits, IsCut, IsRising}
use Rattle.sql_rows.proofs.AboutRows.{apart, front_of}
use Rattle.sql_rows.proofs.Creates.{Defines, all_append, back, front, makes_one, still_empty, then_goes_on}
use Rattle.sql_rows.proofs.Creates.{then_shows}
use Rattle.sql_rows.proofs.CreatingTexts.{create_about, create_about_defines, create_order_heads}
use Rattle.sql_rows.proofs.CreatingTexts.{create_order_heads_defines, create_order_lines, create_order_lines_defines}
use Rattle.sql_rows.proofs.Edits.{deleted}
use Rattle.sql_rows.proofs.Queries.{ids}
use Rattle.sql_rows.proofs.Services.{idle}
use Rattle.sql_rows.proofs.Steps.{Says, same_value, simple, went}

-- ---- a table goes

not_emptied : (task : Task) (db out : Trees) → is_acted_on task.schema task.keys task.table ≡ false
    → Empties task db (Ok out) → out ≡ db
not_emptied task db out idle h = same_value (rw idle at h)

-- no row of another table sets off anything where the table's rows go
module _ (schema : Schema) (at : ℕ) (own_table : Table)
    (there : slice_get schema.tables at ≡ Some (simple own_table))
    (idle : is_acted_on schema Enforced (simple own_table) ≡ false) where
  abbrev task : State → Task
  task old = record {
    limit = old.step_limit;
    keys = (mode_of old).keys;
    schema = schema;
    table = simple own_table;
    params = [];
  }

  pub drops : (kept : List Table) → without_table schema own_table.tree ≡ schema_with (kept ++ [])
      → (without_table schema own_table.tree).tables ≡ kept → (sql : List ℕ) → Says schema sql (DropTable at)
      → (old new : State) (result : Result ℕ Error) → old.now.schema ≡ schema
      → ExecutesInside 0 sql [] old new result → OnOk result (Rebuilds kept [] old new)
  drops kept left those sql says old new (Err e) has h = tt
  drops kept left those sql says old new (Ok count) has h =
      let db = old.now.trees in
      let w = runs_as sql [] old new schema has (DropTable at) says.0 says.1 count h.0 in
      let text = statement_of sql (understood schema sql) in
      let does = subst (λ s. Does old.step_limit (mode_of old) [] (record old.now { schema = s }) text None
      (DropTable at) (Ok (w.tally, new.now))) has w.changed in
      let emptied = went (subst (λ o. AtPlace (λ t. Drops (record (task old) { table = t }) (mode_of old) db) o
      (Ok (w.tally, new.now))) there does) in
      let same : emptied.0 ≡ db = not_emptied (task old) db emptied.0 idle emptied.1 in
      let uncounted = went emptied.2 in
      let still : uncounted.0 ≡ emptied.0 = same_value uncounted.1 in
      let tested = went uncounted.2 in
      let gone = went tested.2 in
      let now : new.now ≡ gone.0 = ap (λ (p : Tally × Database). p.1) (same_value gone.2) in
      record {
        schema = ap (λ (d : Database). d.schema) now ∙ gone.1.0 ∙ left;
        same_rows = subst (λ (d : Database). KeepsRows kept db d.trees) (sym now)
            (subst (λ (t : Trees). KeepsRows kept t gone.0.trees) (still ∙ same)
            (subst (λ ts. KeepsRows ts uncounted.0 gone.0.trees) those gone.1.1));
        empty = tt;
        sound = w.sound;
        shown = h.1;
      }

abbrev pub drop_about : List ℕ
drop_about = codes "DROP TABLE about"

drop_about_says : Says first_purchasing drop_about (DropTable 6)
unfolding understood everything
drop_about_says = (refl, (refl, refl))

-- the drop leaves all tables but `about` as they were
pub drops_about : (old new : State) (result : Result ℕ Error) → old.now.schema ≡ first_purchasing
    → ExecutesInside 0 drop_about [] old new result → OnOk result (Rebuilds (common_tables ++ orders ∷ []) [] old new)
drops_about = drops first_purchasing 6 (about 11) refl refl (common_tables ++ orders ∷ []) refl refl drop_about
    drop_about_says

abbrev pub drop_orders : List ℕ
drop_orders = codes "DROP TABLE orders"

drop_orders_says : Says (schema_with (common_tables ++ orders ∷ [])) drop_orders (DropTable 5)
unfolding understood everything
drop_orders_says = (refl, (refl, refl))

-- the drop leaves the common tables as they were
pub drops_orders : (old new : State) (result : Result ℕ Error)
    → old.now.schema ≡ schema_with (common_tables ++ orders ∷ [])
    → ExecutesInside 0 drop_orders [] old new result → OnOk result (Rebuilds common_tables [] old new)
drops_orders = drops (schema_with (common_tables ++ orders ∷ [])) 5 orders refl refl common_tables refl refl drop_orders
    drop_orders_says

-- ---- a table comes

rebuilds : (kept : List Table) (table : Table) (sql : List ℕ) → Defines (schema_with kept) sql table
    → schema_with (kept ++ table ∷ []) ≡ created (schema_with kept) table → (schema_with kept).tables ≡ kept
    → next_tree (schema_with kept) ≡ table.tree → lacks_sequence (created (schema_with kept) table) ≡ false
    → (old new : State) (result : Result ℕ Error) → old.now.schema ≡ schema_with kept
    → ExecutesInside 0 sql [] old new result → OnOk result (Rebuilds kept (table ∷ []) old new)
rebuilds kept table sql says next those at uncounted old new (Err e) has h = tt
rebuilds kept table sql says next those at uncounted old new (Ok count) has h =
    let it = makes_one (schema_with kept) table sql says uncounted old new count has h in
    record {
      schema = it.schema_is ∙ sym next;
      same_rows = subst (λ ts. KeepsRows ts old.now.trees new.now.trees) those it.others;
      empty = (subst (λ t. new.now.trees t ≡ []) at it.empty, tt);
      sound = it.sound;
      shown = h.1;
    }

-- the table of orders' heads comes after the common tables, whose rows stay
pub rebuilds_heads : (old new : State) (result : Result ℕ Error) → old.now.schema ≡ schema_with common_tables
    → ExecutesInside 0 create_order_heads [] old new result
    → OnOk result (Rebuilds common_tables (order_heads ∷ []) old new)
rebuilds_heads = rebuilds common_tables order_heads create_order_heads create_order_heads_defines refl refl refl refl

-- the table of orders' lines comes after that of their heads, and all rows stay
pub rebuilds_lines : (old new : State) (result : Result ℕ Error)
    → old.now.schema ≡ schema_with (common_tables ++ order_heads ∷ [])
    → ExecutesInside 0 create_order_lines [] old new result
    → OnOk result (Rebuilds (common_tables ++ order_heads ∷ []) (order_lines ∷ []) old new)
rebuilds_lines = rebuilds (common_tables ++ order_heads ∷ []) order_lines create_order_lines create_order_lines_defines
    refl refl refl refl

-- the table `about` comes after all others, and all rows stay
pub rebuilds_about : (old new : State) (result : Result ℕ Error)
    → old.now.schema ≡ schema_with (common_tables ++ order_heads ∷ order_lines ∷ [])
    → ExecutesInside 0 create_about [] old new result
    → OnOk result (Rebuilds (common_tables ++ order_heads ∷ order_lines ∷ []) (about 14 ∷ []) old new)
rebuilds_about = rebuilds (common_tables ++ order_heads ∷ order_lines ∷ []) (about 14) create_about
    (create_about_defines Purchasing) refl refl refl refl

-- ---- one step behind the other

both_keep : (tables : List Table) (a b c : Trees) → KeepsRows tables a b → KeepsRows tables b c → KeepsRows tables a c
both_keep [] a b c h k = tt
both_keep (t ∷ tables) a b c h k = (k.0 ∙ h.0, both_keep tables a b c h.1 k.1)

pub then_rebuilds : (first second third : List Table) {old mid new : State} → Rebuilds first second old mid
    → Rebuilds (first ++ second) third mid new → Rebuilds first (second ++ third) old new
then_rebuilds first second third {old} {mid} {new} a b = record {
  schema = b.schema ∙ ap schema_with (append_assoc first second third);
  same_rows = both_keep first old.now.trees mid.now.trees new.now.trees a.same_rows
      (front (λ t. new.now.trees t.tree ≡ mid.now.trees t.tree) first second b.same_rows);
  empty = all_append (λ t. new.now.trees t.tree ≡ []) second third
      (still_empty second mid.now.trees new.now.trees
      (back (λ t. new.now.trees t.tree ≡ mid.now.trees t.tree) first second b.same_rows) a.empty) b.empty;
  sound = b.sound;
  shown = then_shows a.shown b.shown;
}

-- what is dropped was neither kept nor made
pub then_drops : {old mid new : State} → Rebuilds (common_tables ++ orders ∷ []) [] old mid
    → Rebuilds common_tables [] mid new → Rebuilds common_tables [] old new
then_drops {old} {mid} {new} a b = record {
  schema = b.schema;
  same_rows = both_keep common_tables old.now.trees mid.now.trees new.now.trees
      (front (λ t. mid.now.trees t.tree ≡ old.now.trees t.tree) common_tables (orders ∷ []) a.same_rows) b.same_rows;
  empty = tt;
  sound = b.sound;
  shown = then_shows a.shown b.shown;
}

pub then_lines : {old mid new : State} → Rebuilds common_tables (order_heads ∷ []) old mid
    → Rebuilds (common_tables ++ order_heads ∷ []) (order_lines ∷ []) mid new
    → Rebuilds common_tables (order_heads ∷ order_lines ∷ []) old new
then_lines = then_rebuilds common_tables (order_heads ∷ []) (order_lines ∷ [])

pub then_about : {old mid new : State} → Rebuilds common_tables (order_heads ∷ order_lines ∷ []) old mid
    → Rebuilds (common_tables ++ order_heads ∷ order_lines ∷ []) (about 14 ∷ []) mid new
    → Rebuilds common_tables (order_heads ∷ order_lines ∷ about 14 ∷ []) old new
then_about = then_rebuilds common_tables (order_heads ∷ order_lines ∷ []) (about 14 ∷ [])

pub then_all : {old mid new : State} → Rebuilds common_tables [] old mid
    → Rebuilds common_tables (order_heads ∷ order_lines ∷ about 14 ∷ []) mid new
    → Rebuilds common_tables (order_heads ∷ order_lines ∷ about 14 ∷ []) old new
then_all = then_rebuilds common_tables [] (order_heads ∷ order_lines ∷ about 14 ∷ [])

untouched : (tree : ℕ) (a b : Trees) (tables : List Table)
    → AllByRecursion (λ t. t.tree ≢ tree → b t.tree ≡ a t.tree) tables → AllByRecursion (λ t. t.tree ≢ tree) tables
    → KeepsRows tables a b
untouched tree a b [] same other = tt
untouched tree a b (t ∷ tables) same other = (same.0 other.0, untouched tree a b tables same.1 other.1)

pub then_replaced : {old mid new : State}
    → Rebuilds common_tables (order_heads ∷ order_lines ∷ about 14 ∷ []) old mid
    → Edits 14 (Adds (Null ∷ Int (pos 2) ∷ Text (name_of Purchasing) ∷ [])) mid new → IsReplaced old new
then_replaced {old} {mid} {new} a b =
    let others : AllByRecursion (λ t. t.tree ≢ 14 → new.now.trees t.tree ≡ mid.now.trees t.tree) purchasing.tables =
    subst (λ (s : Schema). AllByRecursion (λ t. t.tree ≢ 14 → new.now.trees t.tree ≡ mid.now.trees t.tree) s.tables)
    a.schema b.others in
    let kept : KeepsRows (common_tables ++ own_tables Purchasing) mid.now.trees new.now.trees =
    untouched 14 mid.now.trees new.now.trees (common_tables ++ own_tables Purchasing)
    (front_of Purchasing (λ t. t.tree ≢ 14 → new.now.trees t.tree ≡ mid.now.trees t.tree) others)
    (apart Purchasing) in
    let own = back (λ t. new.now.trees t.tree ≡ mid.now.trees t.tree) common_tables (own_tables Purchasing) kept in
    record {
      schema = b.same_schema ∙ a.schema;
      common = both_keep common_tables old.now.trees mid.now.trees new.now.trees a.same_rows
          (front (λ t. new.now.trees t.tree ≡ mid.now.trees t.tree) common_tables (own_tables Purchasing) kept);
      heads = own.0 ∙ a.empty.0;
      lines = own.1.0 ∙ a.empty.1.0;
      about = subst (λ rows. Adds (Null ∷ Int (pos 2) ∷ Text (name_of Purchasing) ∷ []) rows (new.now.trees 14))
          a.empty.1.1.0 b.rows;
      sound = b.sound;
      shown = then_shows a.shown b.shown;
    }

pub ruleset making = (then_goes_on, then_lines, then_about)

pub ruleset replacing = (then_goes_on, then_all, then_replaced)

-- ---- whose tables they are is told anew

abbrev pub delete_about : List ℕ
delete_about = codes "DELETE FROM about"

pub delete_about_says : (service : Service) → Says (schema_of service) delete_about
    (Delete 7 (record { lets = []; body = ids (about_tree service) [] }))
unfolding understood everything
delete_about_says Purchasing = (refl, (refl, refl))
delete_about_says Warehouse = (refl, (refl, refl))
delete_about_says Billing = (refl, (refl, refl))

-- the delete empties the table `about` alone
pub forgets : (service : Service) (old new : State) (result : Result ℕ Error) → old.now.schema ≡ schema_of service
    → IsRising (old.now.trees (about_tree service)) → ExecutesInside 0 delete_about [] old new result
    → OnOk result (Edits (about_tree service) (IsCut (λ _. true)) old new)
forgets Purchasing old new result has rising h =
    deleted (schema_of Purchasing) 7 (about 14) refl (idle Purchasing 14) old new has rising [] (λ _. true) [] (λ x. refl) refl
    delete_about (delete_about_says Purchasing) result h
forgets Warehouse old new result has rising h =
    deleted (schema_of Warehouse) 7 (about 13) refl (idle Warehouse 13) old new has rising [] (λ _. true) [] (λ x. refl) refl
    delete_about (delete_about_says Warehouse) result h
forgets Billing old new result has rising h =
    deleted (schema_of Billing) 7 (about 13) refl (idle Billing 13) old new has rising [] (λ _. true) [] (λ x. refl) refl
    delete_about (delete_about_says Billing) result h

none_left : (rows after : List Row) → IsCut (λ _. true) rows after → after ≡ []
none_left rows [] h = refl
none_left rows (x ∷ after) h = absurd (true≢false (h.each x (inl refl)).1)

both_untouched : (tree : ℕ) (tables : List Table) (a b c : Trees)
    → AllByRecursion (λ t. t.tree ≢ tree → b t.tree ≡ a t.tree) tables
    → AllByRecursion (λ t. t.tree ≢ tree → c t.tree ≡ b t.tree) tables
    → AllByRecursion (λ t. t.tree ≢ tree → c t.tree ≡ a t.tree) tables
both_untouched tree [] a b c h k = tt
both_untouched tree (t ∷ tables) a b c h k =
    (λ apart. k.0 apart ∙ h.0 apart, both_untouched tree tables a b c h.1 k.1)

then_told : (service : Service) {old mid new : State}
    → Edits (about_tree service) (IsCut (λ _. true)) old mid
    → Edits (about_tree service) (Adds (Null ∷ Int (pos 2) ∷ Text (name_of service) ∷ [])) mid new
    → Edits (about_tree service) (IsTold service) old new
then_told service {old} {mid} {new} a b =
    let tree = about_tree service in
    let others = subst (λ (s : Schema). AllByRecursion
    (λ t. t.tree ≢ tree → new.now.trees t.tree ≡ mid.now.trees t.tree) s.tables) a.same_schema b.others in
    record {
      rows = subst (λ rows. Adds (Null ∷ Int (pos 2) ∷ Text (name_of service) ∷ []) rows (new.now.trees tree))
          (none_left (old.now.trees tree) (mid.now.trees tree) a.rows) b.rows;
      rising = b.rising;
      others = both_untouched tree old.now.schema.tables old.now.trees mid.now.trees new.now.trees a.others others;
      same_schema = b.same_schema ∙ a.same_schema;
      sound = b.sound;
      shown = then_shows a.shown b.shown;
    }

-- an emptied `about` with the row of version 2 names that version and the service
pub tells_anew : (service : Service) (old mid new : State) (result : Result ℕ Error)
    → Edits (about_tree service) (IsCut (λ _. true)) old mid
    → OnOk result (Edits (about_tree service) (Adds (Null ∷ Int (pos 2) ∷ Text (name_of service) ∷ [])) mid new)
    → OnOk result (Edits (about_tree service) (IsTold service) old new)
tells_anew service old mid new (Err e) a b = tt
tells_anew service old mid new (Ok count) a b = then_told service a b
