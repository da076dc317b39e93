-- What the texts on `out_marks` mean and do.
use Rattle.std.proofs.Common.{◌≡◌, ℕ, ℤ, List, [], ◌∷◌, filter, codes, slice_get, Some, None, Result, OnOk, IfOk, refl}
use Rattle.sqlite.specs.declared.types.Value.TheVariants.{Null, Int}
use Rattle.sqlite.specs.declared.error.Error.{Error}
use Rattle.sqlite.specs.Order.{Row}
use Rattle.sqlite.specs.Command.TheVariants.{InsertOr}
use Rattle.sqlite.specs.Source.TheVariants.{Values}
use Rattle.sqlite.specs.Listing.{understood}
use Rattle.sqlite.specs.State.{State, ExecutesInside, Shown as ShownAs}
use Rattle.sqlite_rules.specs.Keys.{conflicts}
use Rattle.sqlite_schema.specs.declared.command.Conflict.TheVariants.{Replace}
use Rattle.sqlite_sql.specs.Ops.{binary, is_true}
use Rattle.sqlite_sql.specs.Term.{lit, col}
use Rattle.sqlite_sql.specs.declared.ops.BinaryOp.TheVariants.{Compare}
use Rattle.sqlite_sql.specs.declared.ops.CompareOp.TheVariants.{Eq}
use Rattle.sqlite_tied.specs.Compute.{everything}
use Rattle.sqlite_trees.specs.Tree.{rowid}
use Rattle.sqlite_value.specs.Keys.{first_key}
use Rattle.sqlite_value.specs.Order.{column}
use Rattle.sqlite_value.specs.declared.keys.Collation.TheVariants.{Binary}
use Rattle.sql_rows.specs.declared.service.Service.{Service}
use Rattle.sql_rows.specs.declared.service.Service.TheVariants.{Purchasing, Warehouse, Billing}
use Rattle.sql_rows.specs.Schema.{IsService, schema_of, out_marks}
use Rattle.sql_rows.specs.Tables.{has_key, IsRising, Puts, Edits, pair_key, pair_cells, marks_cells, AreInOrder}
use Rattle.sql_rows.specs.Tables.{by_pair}
use Rattle.sql_rows.proofs.Steps.{Says, simple}
use Rattle.sql_rows.proofs.Queries.{Asks, rows_of, pair_terms, every}
use Rattle.sql_rows.proofs.Tests.{key_test, sql_key, Joined, cast_null, cast_int, own_pair}
use Rattle.sql_rows.proofs.Edits.{replaced}
use Rattle.sql_rows.proofs.Selects.{shows}
use Rattle.sql_rows.proofs.Services.{idle}

out_marks_there : (service : Service) → slice_get (schema_of service).tables 2 ≡ Some out_marks
out_marks_there Purchasing = refl
out_marks_there Warehouse = refl
out_marks_there Billing = refl

abbrev pub replace : List ℕ
replace = codes "INSERT OR REPLACE INTO out_marks (sender, receiver, sent, settled) VALUES (?1, ?2, ?3, ?4)"

pub replace_says : (service : Service) → Says (schema_of service) replace
    (InsertOr 2 Replace (Values (lit Null ∷ col 0 0 ∷ col 0 1 ∷ col 0 2 ∷ col 0 3 ∷ []) 5) [])
unfolding understood everything
replace_says Purchasing = (refl, (refl, refl))
replace_says Warehouse = (refl, (refl, refl))
replace_says Billing = (refl, (refl, refl))

puts_joined : (service : Service) (sender : List ℕ) (receiver : List ℕ) (sent : ℤ) (settled : ℤ) (id : ℤ) (x : Row)
    → conflicts None (schema_of service).indexes (simple out_marks) (Int id ∷ marks_cells sender receiver sent settled)
    x ≡ Joined (is_true (binary (Compare Eq Binary) (rowid x) (Int id))) (sql_key (pair_key sender receiver) x)
unfolding first_key
puts_joined Purchasing sender receiver sent settled id x = refl
puts_joined Warehouse sender receiver sent settled id x = refl
puts_joined Billing sender receiver sent settled id x = refl

-- the write puts the marks of a pair in the place of those that were there
pub puts : (sender : List ℕ) (receiver : List ℕ) (sent : ℤ) (settled : ℤ) (old new : State) (result : Result ℕ Error)
    → IsService old.now.schema → IsRising (old.now.trees 3)
    → ExecutesInside 0 replace (marks_cells sender receiver sent settled) old new result
    → OnOk result (Edits 3 (Puts (pair_key sender receiver) (marks_cells sender receiver sent settled)) old new)
puts sender receiver sent settled old new result it rising h =
    replaced (schema_of it.service) 2 out_marks (out_marks_there it.service) (idle it.service 3) old new it.is rising
    (pair_key sender receiver) (tt, (tt, tt)) (marks_cells sender receiver sent settled)
    (puts_joined it.service sender receiver sent settled)
    (own_pair sender receiver (Int sent ∷ Int settled ∷ [])) replace
    (lit Null ∷ col 0 0 ∷ col 0 1 ∷ col 0 2 ∷ col 0 3 ∷ []) 5 (marks_cells sender receiver sent settled)
    (Null ∷ marks_cells sender receiver sent settled) (replace_says it.service) refl
    (λ rows. rw (cast_null, cast_int sent, cast_int settled) refl)
    (λ id. rw (cast_int id, cast_int sent, cast_int settled) refl) result h

abbrev pub select : List ℕ
select = codes "SELECT sent, settled FROM out_marks WHERE sender = ?1 AND receiver = ?2 ORDER BY sender, receiver"

-- the text asks for `sent` and `settled` of the rows of a pair
pub select_asks : (service : Service) → Asks (schema_of service) select
    (rows_of 3 pair_terms (col 1 3 ∷ col 1 4 ∷ []) (col 1 1 ∷ col 1 2 ∷ []) every)
    (codes "sent" ∷ codes "settled" ∷ [])
unfolding understood everything
select_asks Purchasing = ((refl, (refl, refl)), refl)
select_asks Warehouse = ((refl, (refl, refl)), refl)
select_asks Billing = ((refl, (refl, refl)), refl)

-- the query shows the marks of the pair, if it has any
pub reads : (sender : List ℕ) (receiver : List ℕ) {X : Type 0} (items : X → List Row) (old new : State)
    (result : Result X Error) → IsService old.now.schema
    → IfOk result (λ v. ShownAs select (pair_cells sender receiver) old new (items v))
    → IfOk result (λ v. AreInOrder by_pair None (λ x. column x 3 ∷ column x 4 ∷ [])
    (filter (has_key (pair_key sender receiver)) (old.now.trees 3)) (items v))
reads sender receiver items old new result it h =
    shows (schema_of it.service) select 3 pair_terms (col 1 3 ∷ col 1 4 ∷ []) (col 1 1 ∷ col 1 2 ∷ []) every _
    (select_asks it.service) (has_key (pair_key sender receiver)) (pair_cells sender receiver)
    (λ x. key_test (pair_key sender receiver) x (tt, (tt, tt))) by_pair (λ x. column x 3 ∷ column x 4 ∷ []) None
    (λ a b. refl) (λ x. refl) refl old new it.is refl items result h
