-- What the texts on the table `in_marks` mean and do.
use Rattle.std.proofs.Common.{◌≡◌, ℕ, ℤ, List, [], ◌∷◌, filter, codes, slice_get, Some, None, Result, OnOk, IfOk, refl}
use Rattle.sqlite.specs.declared.types.Value.TheVariants.{Null, Int}
use Rattle.sqlite.specs.declared.error.Error.{Error}
use Rattle.sqlite.specs.Order.{Row}
use Rattle.sqlite.specs.Command.TheVariants.{InsertOr}
use Rattle.sqlite.specs.Source.TheVariants.{Values}
use Rattle.sqlite.specs.Listing.{understood}
use Rattle.sqlite.specs.State.{State, ExecutesInside, Shown as ShownAs}
use Rattle.sqlite_rules.specs.Keys.{conflicts}
use Rattle.sqlite_schema.specs.declared.command.Conflict.TheVariants.{Replace}
use Rattle.sqlite_sql.specs.Ops.{binary, is_true}
use Rattle.sqlite_sql.specs.Term.{lit, col}
use Rattle.sqlite_sql.specs.declared.ops.BinaryOp.TheVariants.{Compare}
use Rattle.sqlite_sql.specs.declared.ops.CompareOp.TheVariants.{Eq}
use Rattle.sqlite_tied.specs.Compute.{everything}
use Rattle.sqlite_trees.specs.Tree.{rowid}
use Rattle.sqlite_value.specs.Keys.{first_key}
use Rattle.sqlite_value.specs.Order.{column}
use Rattle.sqlite_value.specs.declared.keys.Collation.TheVariants.{Binary}
use Rattle.sql_rows.specs.declared.service.Service.{Service}
use Rattle.sql_rows.specs.declared.service.Service.TheVariants.{Purchasing, Warehouse, Billing}
use Rattle.sql_rows.specs.Schema.{IsService, schema_of, in_marks}
use Rattle.sql_rows.specs.Tables.{has_key, IsRising, Puts, Edits, pair_key, pair_cells, place_cells, AreInOrder}
use Rattle.sql_rows.specs.Tables.{by_pair}
use Rattle.sql_rows.proofs.Steps.{Says, simple}
use Rattle.sql_rows.proofs.Queries.{Asks, rows_of, pair_terms, every}
use Rattle.sql_rows.proofs.Tests.{key_test, sql_key, Joined, cast_null, cast_int, own_pair}
use Rattle.sql_rows.proofs.Edits.{replaced}
use Rattle.sql_rows.proofs.Selects.{shows}
use Rattle.sql_rows.proofs.Services.{idle}

in_marks_there : (service : Service) → slice_get (schema_of service).tables 3 ≡ Some in_marks
in_marks_there Purchasing = refl
in_marks_there Warehouse = refl
in_marks_there Billing = refl

abbrev pub replace : List ℕ
replace = codes "INSERT OR REPLACE INTO in_marks (sender, receiver, handled) VALUES (?1, ?2, ?3)"

pub replace_says : (service : Service) → Says (schema_of service) replace
    (InsertOr 3 Replace (Values (lit Null ∷ col 0 0 ∷ col 0 1 ∷ col 0 2 ∷ []) 4) [])
unfolding understood everything
replace_says Purchasing = (refl, (refl, refl))
replace_says Warehouse = (refl, (refl, refl))
replace_says Billing = (refl, (refl, refl))

puts_joined : (service : Service) (sender : List ℕ) (receiver : List ℕ) (handled : ℤ) (id : ℤ) (x : Row)
    → conflicts None (schema_of service).indexes (simple in_marks) (Int id ∷ place_cells sender receiver handled) x
    ≡ Joined (is_true (binary (Compare Eq Binary) (rowid x) (Int id))) (sql_key (pair_key sender receiver) x)
unfolding first_key
puts_joined Purchasing sender receiver handled id x = refl
puts_joined Warehouse sender receiver handled id x = refl
puts_joined Billing sender receiver handled id x = refl

-- the write puts the handled mark of a pair in the place of the one that was there
pub puts : (sender : List ℕ) (receiver : List ℕ) (handled : ℤ) (old new : State) (result : Result ℕ Error)
    → IsService old.now.schema → IsRising (old.now.trees 5)
    → ExecutesInside 0 replace (place_cells sender receiver handled) old new result
    → OnOk result (Edits 5 (Puts (pair_key sender receiver) (place_cells sender receiver handled)) old new)
puts sender receiver handled old new result it rising h =
    replaced (schema_of it.service) 3 in_marks (in_marks_there it.service) (idle it.service 5) old new it.is rising
    (pair_key sender receiver) (tt, (tt, tt)) (place_cells sender receiver handled)
    (puts_joined it.service sender receiver handled)
    (own_pair sender receiver (Int handled ∷ [])) replace (lit Null ∷ col 0 0 ∷ col 0 1 ∷ col 0 2 ∷ []) 4
    (place_cells sender receiver handled) (Null ∷ place_cells sender receiver handled) (replace_says it.service)
    refl
    (λ rows. rw (cast_null, cast_int handled) refl) (λ id. rw (cast_int id, cast_int handled) refl) result h

abbrev pub select : List ℕ
select = codes "SELECT handled FROM in_marks WHERE sender = ?1 AND receiver = ?2 ORDER BY sender, receiver"

-- the text asks for `handled` of the rows of a pair
pub select_asks : (service : Service) → Asks (schema_of service) select
    (rows_of 5 pair_terms (col 1 3 ∷ []) (col 1 1 ∷ col 1 2 ∷ []) every) (codes "handled" ∷ [])
unfolding understood everything
select_asks Purchasing = ((refl, (refl, refl)), refl)
select_asks Warehouse = ((refl, (refl, refl)), refl)
select_asks Billing = ((refl, (refl, refl)), refl)

-- the query shows the handled mark of the pair, if it has one
pub reads : (sender : List ℕ) (receiver : List ℕ) {X : Type 0} (items : X → List Row) (old new : State)
    (result : Result X Error) → IsService old.now.schema
    → IfOk result (λ v. ShownAs select (pair_cells sender receiver) old new (items v))
    → IfOk result (λ v. AreInOrder by_pair None (λ x. column x 3 ∷ [])
    (filter (has_key (pair_key sender receiver)) (old.now.trees 5)) (items v))
reads sender receiver items old new result it h =
    shows (schema_of it.service) select 5 pair_terms (col 1 3 ∷ []) (col 1 1 ∷ col 1 2 ∷ []) every _
    (select_asks it.service) (has_key (pair_key sender receiver)) (pair_cells sender receiver)
    (λ x. key_test (pair_key sender receiver) x (tt, (tt, tt))) by_pair (λ x. column x 3 ∷ []) None (λ a b. refl)
    (λ x. refl) refl old new it.is refl items result h
