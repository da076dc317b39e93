-- What the texts on `held` mean and do.
use Rattle.std.proofs.Common.{◌++◌, ◌≡◌, ℕ, ℤ, pos, List, [], ◌∷◌, map, filter, codes, slice_get, Some, None, Result}
use Rattle.std.proofs.Common.{OnOk, IfOk, refl, sym, ◌∙◌, ◌&&◌, true, cond, flat_map, Ok, Err}
use Rattle.sqlite.specs.declared.types.Value.TheVariants.{Null, Int, Text}
use Rattle.sqlite.specs.declared.error.Error.{Error}
use Rattle.sqlite.specs.Order.{Row}
use Rattle.sqlite.specs.Command.TheVariants.{InsertOr, Delete}
use Rattle.sqlite.specs.Source.TheVariants.{Values}
use Rattle.sqlite.specs.Listing.{understood}
use Rattle.sqlite.specs.State.{State, ExecutesInside, Shown as ShownAs}
use Rattle.sqlite_rules.specs.Keys.{conflicts}
use Rattle.sqlite_schema.specs.declared.command.Conflict.TheVariants.{Replace}
use Rattle.sqlite_sql.specs.Ops.{binary, is_true}
use Rattle.sqlite_sql.specs.Query.{Query, inner, left, end, or_nulls}
use Rattle.sqlite_sql.specs.Program.{overlay}
use Rattle.sqlite_keyed.proofs.ListLemmas.{map-flat_map}
use Rattle.sqlite.proofs.Callers.{reads_as}
use Rattle.sqlite_sql.specs.Term.{Env, lit, col, op2}
use Rattle.sqlite_sql.specs.declared.ops.BinaryOp.TheVariants.{Compare, Arith, Coalesce}
use Rattle.sqlite_sql.specs.declared.ops.ArithOp.TheVariants.{Add}
use Rattle.sqlite_sql.specs.declared.ops.CompareOp.TheVariants.{Eq}
use Rattle.sqlite_tied.specs.Compute.{everything}
use Rattle.sqlite_trees.specs.Tree.{rowid}
use Rattle.sqlite_value.specs.Keys.{first_key}
use Rattle.sqlite_value.specs.Order.{column}
use Rattle.sqlite_value.specs.declared.keys.Collation.TheVariants.{Binary}
use Rattle.sql_rows.specs.declared.service.Service.{Service}
use Rattle.sql_rows.specs.declared.service.Service.TheVariants.{Purchasing, Warehouse, Billing}
use Rattle.sql_rows.specs.Schema.{IsService, schema_of, held}
use Rattle.sql_rows.specs.Tables.{has_key, IsRising, IsCut, Puts, Edits, place_key, place_cells, letter_cells}
use Rattle.sql_rows.specs.Tables.{AreInOrder, by_pair, by_place, next_held, is_next, is_mark_of}
use Rattle.sql_rows.proofs.Steps.{Says, simple}
use Rattle.sql_rows.proofs.Queries.{Asks, rows_of, ids, eq, place_terms, every}
use Rattle.sql_rows.proofs.Tests.{key_test, sql_key, Joined, cast_null, cast_int, own_place, and_true}
use Rattle.sql_rows.proofs.Edits.{replaced, deleted}
use Rattle.sql_rows.proofs.Selects.{shows, in_order, kept_rows, map_map}
use Rattle.sql_rows.proofs.Services.{idle}

held_there : (service : Service) → slice_get (schema_of service).tables 4 ≡ Some held
held_there Purchasing = refl
held_there Warehouse = refl
held_there Billing = refl

abbrev pub replace : List ℕ
replace = codes "INSERT OR REPLACE INTO held (sender, receiver, number, body) VALUES (?1, ?2, ?3, ?4)"

pub replace_says : (service : Service) → Says (schema_of service) replace
    (InsertOr 4 Replace (Values (lit Null ∷ col 0 0 ∷ col 0 1 ∷ col 0 2 ∷ col 0 3 ∷ []) 5) [])
unfolding understood everything
replace_says Purchasing = (refl, (refl, refl))
replace_says Warehouse = (refl, (refl, refl))
replace_says Billing = (refl, (refl, refl))

puts_joined : (service : Service) (sender : List ℕ) (receiver : List ℕ) (number : ℤ) (body : List ℕ) (id : ℤ) (x : Row)
    → conflicts None (schema_of service).indexes (simple held) (Int id ∷ letter_cells sender receiver number body) x
    ≡ Joined (is_true (binary (Compare Eq Binary) (rowid x) (Int id)))
    (sql_key (place_key sender receiver number) x)
unfolding first_key
puts_joined Purchasing sender receiver number body id x = refl
puts_joined Warehouse sender receiver number body id x = refl
puts_joined Billing sender receiver number body id x = refl

-- the write puts a held letter in the place of one with its number
pub puts : (sender : List ℕ) (receiver : List ℕ) (number : ℤ) (body : List ℕ) (old new : State)
    (result : Result ℕ Error) → IsService old.now.schema → IsRising (old.now.trees 7)
    → ExecutesInside 0 replace (letter_cells sender receiver number body) old new result
    → OnOk result (Edits 7 (Puts (place_key sender receiver number) (letter_cells sender receiver number body)) old
    new)
puts sender receiver number body old new result it rising h =
    replaced (schema_of it.service) 4 held (held_there it.service) (idle it.service 7) old new it.is rising
    (place_key sender receiver number) (tt, (tt, (tt, tt))) (letter_cells sender receiver number body)
    (puts_joined it.service sender receiver number body)
    (own_place sender receiver number (Text body ∷ [])) replace (lit Null ∷ col 0 0 ∷ col 0 1 ∷ col 0 2 ∷ col 0 3 ∷ [])
    5 (letter_cells sender receiver number body) (Null ∷ letter_cells sender receiver number body)
    (replace_says it.service) refl
    (λ rows. rw (cast_null, cast_int number) refl) (λ id. rw (cast_int id, cast_int number) refl) result h

abbrev pub delete : List ℕ
delete = codes "DELETE FROM held WHERE sender = ?1 AND receiver = ?2 AND number = ?3"

pub delete_says : (service : Service) → Says (schema_of service) delete
    (Delete 4 (record { lets = []; body = ids 7 place_terms }))
unfolding understood everything
delete_says Purchasing = (refl, (refl, refl))
delete_says Warehouse = (refl, (refl, refl))
delete_says Billing = (refl, (refl, refl))

-- the write takes the held letter of a pair and a number away, and no other
pub takes : (sender : List ℕ) (receiver : List ℕ) (number : ℤ) (old new : State) (result : Result ℕ Error)
    → IsService old.now.schema → IsRising (old.now.trees 7)
    → ExecutesInside 0 delete (place_cells sender receiver number) old new result
    → OnOk result (Edits 7 (IsCut (has_key (place_key sender receiver number))) old new)
takes sender receiver number old new result it rising h =
    deleted (schema_of it.service) 4 held (held_there it.service) (idle it.service 7) old new it.is rising place_terms
    (has_key (place_key sender receiver number)) (place_cells sender receiver number)
    (λ x. key_test (place_key sender receiver number) x (tt, (tt, (tt, tt)))) refl delete
    (delete_says it.service) result h

abbrev pub select : List ℕ
select =
    codes "SELECT body FROM held WHERE sender = ?1 AND receiver = ?2 AND number = ?3 "
    ++ codes "ORDER BY sender, receiver, number"

-- the text asks for the body of the rows of a pair and a number
pub select_asks : (service : Service) → Asks (schema_of service) select
    (rows_of 7 place_terms (col 1 4 ∷ []) (col 1 1 ∷ col 1 2 ∷ col 1 3 ∷ []) every) (codes "body" ∷ [])
unfolding understood everything
select_asks Purchasing = ((refl, (refl, refl)), refl)
select_asks Warehouse = ((refl, (refl, refl)), refl)
select_asks Billing = ((refl, (refl, refl)), refl)

-- the query shows the body of the held letter, if it is held
pub reads : (sender : List ℕ) (receiver : List ℕ) (number : ℤ) {X : Type 0} (items : X → List Row) (old new : State)
    (result : Result X Error) → IsService old.now.schema
    → IfOk result (λ v. ShownAs select (place_cells sender receiver number) old new (items v))
    → IfOk result (λ v. AreInOrder by_place None (λ x. column x 4 ∷ [])
    (filter (has_key (place_key sender receiver number)) (old.now.trees 7)) (items v))
reads sender receiver number items old new result it h =
    shows (schema_of it.service) select 7 place_terms (col 1 4 ∷ []) (col 1 1 ∷ col 1 2 ∷ col 1 3 ∷ []) every _
    (select_asks it.service) (has_key (place_key sender receiver number)) (place_cells sender receiver number)
    (λ x. key_test (place_key sender receiver number) x (tt, (tt, (tt, tt)))) by_place (λ x. column x 4 ∷ []) None
    (λ a b. refl) (λ x. refl) refl old new it.is refl items result h

-- ---- held letters that are next

-- those with the mark of their pair, or with no mark
abbrev drainable : Query
drainable = record (rows_of 7 (eq (col 1 3)
    (op2 (Arith Add) (op2 Coalesce (col 2 3) (lit (Int (pos 0)))) (lit (Int (pos 1)))) ∷ []) (col 1 1 ∷ col 1 2 ∷ [])
    (col 1 1 ∷ col 1 2 ∷ []) (lit (Int (pos 1)))) {
      from = inner 7 (left 5 (eq (col 1 1) (col 2 1) ∷ eq (col 1 2) (col 2 2) ∷ []) end);
    }

abbrev pub select_drainable : List ℕ
select_drainable =
    codes "SELECT held.sender, held.receiver FROM held "
    ++ codes "LEFT JOIN in_marks ON held.sender = in_marks.sender AND held.receiver = in_marks.receiver "
    ++ codes "WHERE held.number = coalesce(in_marks.handled, 0) + 1 ORDER BY held.sender, held.receiver LIMIT 1"

-- the text asks for the pairs whose next letter is held, the first of them
pub select_drainable_asks : (service : Service)
    → Asks (schema_of service) select_drainable (drainable) (codes "sender" ∷ codes "receiver" ∷ [])
unfolding understood everything
select_drainable_asks Purchasing = ((refl, (refl, refl)), refl)
select_drainable_asks Warehouse = ((refl, (refl, refl)), refl)
select_drainable_asks Billing = ((refl, (refl, refl)), refl)

abbrev pair_env : Row × Row → Env
pair_env x = [] ∷ x.0 ∷ x.1 ∷ []

next_marks : (h : Row) (marks : List Row) → flat_map (λ m. cond (is_next h m && true) (pair_env (h, m) ∷ []) []) marks
    ≡ map pair_env (map (λ m. (h, m)) (filter (is_next h) marks))
next_marks h marks = kept_rows (λ m. is_next h m && true) (is_next h) (λ m. pair_env (h, m)) marks
    (λ m. and_true (is_next h m)) ∙ sym (map_map pair_env (λ m. (h, m)) (filter (is_next h) marks))

flat_map_map : {X Y Z : Type 0} (g : Y → Z) (f : X → List Y) (k : X → List Z) (xs : List X)
    → ((x : X) → k x ≡ map g (f x)) → flat_map k xs ≡ map g (flat_map f xs)
flat_map_map g f k xs is = (λ i. flat_map (λ x. is x i) xs) ∙ sym (map-flat_map g f xs)

-- the query shows the first pair whose next letter is held, if there is one
pub reads_drainable : {X : Type 0} (items : X → List Row) (old new : State) (result : Result X Error)
    → IsService old.now.schema → IfOk result (λ v. ShownAs select_drainable [] old new (items v))
    → IfOk result (λ v. AreInOrder (λ a b. by_pair a.0 b.0) (Some 1) (λ x. column x.0 1 ∷ column x.0 2 ∷ [])
    (next_held (old.now.trees 7) (old.now.trees 5)) (items v))
reads_drainable items old new (Err e) it h = tt
reads_drainable items old new (Ok v) it h =
    let helds = old.now.trees 7 in
    let marks = old.now.trees 5 in
    in_order drainable refl refl refl [] pair_env (next_held helds marks) (overlay old.now.trees [])
    (flat_map_map pair_env (λ x. map (λ m. (x, m)) (filter (is_next x) (or_nulls (filter (is_mark_of x) marks))))
    (λ x. flat_map (λ m. cond (is_next x m && true) (pair_env (x, m) ∷ []) [])
    (or_nulls (filter (is_mark_of x) marks))) helds (λ x. next_marks x (or_nulls (filter (is_mark_of x) marks))))
    (λ a b. by_pair a.0 b.0) (λ x. column x.0 1 ∷ column x.0 2 ∷ []) (Some 1) (λ a b. refl) (λ x. refl) refl (items v)
    ((reads_as select_drainable [] old new (schema_of it.service) it.is _ (select_drainable_asks it.service).0.0
    (select_drainable_asks it.service).0.1 (select_drainable_asks it.service).1 (items v) h).answer Null)
