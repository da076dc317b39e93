-- What the texts on `outbox` mean and do.
use Rattle.std.proofs.Common.{◌++◌, ◌≡◌, ℕ, ℤ, List, [], ◌∷◌, filter, codes, slice_get, Some, None, Result, OnOk, IfOk}
use Rattle.std.proofs.Common.{refl}
use Rattle.sqlite.specs.declared.types.Value.TheVariants.{Null, Int, Text}
use Rattle.sqlite.specs.declared.error.Error.{Error}
use Rattle.sqlite.specs.Order.{Row}
use Rattle.sqlite.specs.Command.TheVariants.{InsertOr, Delete}
use Rattle.sqlite.specs.Source.TheVariants.{Values}
use Rattle.sqlite.specs.Listing.{understood}
use Rattle.sqlite.specs.State.{State, ExecutesInside, Shown as ShownAs}
use Rattle.sqlite_rules.specs.Keys.{conflicts}
use Rattle.sqlite_schema.specs.declared.command.Conflict.TheVariants.{Replace}
use Rattle.sqlite_sql.specs.Ops.{binary, is_true}
use Rattle.sqlite_sql.specs.Query.{as_count}
use Rattle.sqlite_sql.specs.Term.{lit, col}
use Rattle.sqlite_sql.specs.declared.ops.BinaryOp.TheVariants.{Compare}
use Rattle.sqlite_sql.specs.declared.ops.CompareOp.TheVariants.{Eq}
use Rattle.sqlite_tied.specs.Compute.{everything}
use Rattle.sqlite_trees.specs.Tree.{rowid}
use Rattle.sqlite_value.specs.Keys.{first_key}
use Rattle.sqlite_value.specs.declared.keys.Collation.TheVariants.{Binary}
use Rattle.sql_rows.specs.declared.service.Service.{Service}
use Rattle.sql_rows.specs.declared.service.Service.TheVariants.{Purchasing, Warehouse, Billing}
use Rattle.sql_rows.specs.Schema.{IsService, schema_of, outbox}
use Rattle.sql_rows.specs.Tables.{IsRising, IsCut, Puts, Edits, place_key, place_cells, letter_cells, is_upto}
use Rattle.sql_rows.specs.Tables.{is_after, AreInOrder, by_place, shown_letter}
use Rattle.sql_rows.proofs.Steps.{Says, simple}
use Rattle.sql_rows.proofs.Queries.{Asks, rows_of, ids}
use Rattle.sql_rows.proofs.Tests.{sql_key, Joined, cast_null, cast_int, own_place, upto_terms, upto_test, after_terms}
use Rattle.sql_rows.proofs.Tests.{after_test}
use Rattle.sql_rows.proofs.Edits.{replaced, deleted}
use Rattle.sql_rows.proofs.Selects.{shows, shows_all}
use Rattle.sql_rows.proofs.Services.{idle}

outbox_there : (service : Service) → slice_get (schema_of service).tables 1 ≡ Some outbox
outbox_there Purchasing = refl
outbox_there Warehouse = refl
outbox_there Billing = refl

abbrev pub replace : List ℕ
replace = codes "INSERT OR REPLACE INTO outbox (sender, receiver, number, body) VALUES (?1, ?2, ?3, ?4)"

pub replace_says : (service : Service) → Says (schema_of service) replace
    (InsertOr 1 Replace (Values (lit Null ∷ col 0 0 ∷ col 0 1 ∷ col 0 2 ∷ col 0 3 ∷ []) 5) [])
unfolding understood everything
replace_says Purchasing = (refl, (refl, refl))
replace_says Warehouse = (refl, (refl, refl))
replace_says Billing = (refl, (refl, refl))

puts_joined : (service : Service) (sender : List ℕ) (receiver : List ℕ) (number : ℤ) (body : List ℕ) (id : ℤ) (x : Row)
    → conflicts None (schema_of service).indexes (simple outbox) (Int id ∷ letter_cells sender receiver number body) x
    ≡ Joined (is_true (binary (Compare Eq Binary) (rowid x) (Int id)))
    (sql_key (place_key sender receiver number) x)
unfolding first_key
puts_joined Purchasing sender receiver number body id x = refl
puts_joined Warehouse sender receiver number body id x = refl
puts_joined Billing sender receiver number body id x = refl

-- the write puts a letter in the place of one with its number
pub puts : (sender : List ℕ) (receiver : List ℕ) (number : ℤ) (body : List ℕ) (old new : State)
    (result : Result ℕ Error) → IsService old.now.schema → IsRising (old.now.trees 1)
    → ExecutesInside 0 replace (letter_cells sender receiver number body) old new result
    → OnOk result (Edits 1 (Puts (place_key sender receiver number) (letter_cells sender receiver number body)) old
    new)
puts sender receiver number body old new result it rising h =
    replaced (schema_of it.service) 1 outbox (outbox_there it.service) (idle it.service 1) old new it.is rising
    (place_key sender receiver number) (tt, (tt, (tt, tt))) (letter_cells sender receiver number body)
    (puts_joined it.service sender receiver number body)
    (own_place sender receiver number (Text body ∷ [])) replace (lit Null ∷ col 0 0 ∷ col 0 1 ∷ col 0 2 ∷ col 0 3 ∷ [])
    5 (letter_cells sender receiver number body) (Null ∷ letter_cells sender receiver number body)
    (replace_says it.service) refl
    (λ rows. rw (cast_null, cast_int number) refl) (λ id. rw (cast_int id, cast_int number) refl) result h

abbrev pub delete_upto : List ℕ
delete_upto = codes "DELETE FROM outbox WHERE sender = ?1 AND receiver = ?2 AND number <= ?3"

pub delete_upto_says : (service : Service)
    → Says (schema_of service) delete_upto (Delete 1 (record { lets = []; body = ids 1 upto_terms }))
unfolding understood everything
delete_upto_says Purchasing = (refl, (refl, refl))
delete_upto_says Warehouse = (refl, (refl, refl))
delete_upto_says Billing = (refl, (refl, refl))

-- the write takes the letters of a pair up to a number away, and no others
pub settles : (sender : List ℕ) (receiver : List ℕ) (number : ℤ) (old new : State) (result : Result ℕ Error)
    → IsService old.now.schema → IsRising (old.now.trees 1)
    → ExecutesInside 0 delete_upto (place_cells sender receiver number) old new result
    → OnOk result (Edits 1 (IsCut (is_upto sender receiver number)) old new)
settles sender receiver number old new result it rising h =
    deleted (schema_of it.service) 1 outbox (outbox_there it.service) (idle it.service 1) old new it.is rising
    upto_terms (is_upto sender receiver number) (place_cells sender receiver number)
    (upto_test sender receiver number) refl delete_upto
    (delete_upto_says it.service) result h

abbrev pub select_first : List ℕ
select_first = codes "SELECT sender, receiver, number, body FROM outbox ORDER BY sender, receiver, number LIMIT ?1"

-- the text asks for the first letters, by pair and then by number
pub select_first_asks : (service : Service)
    → Asks (schema_of service) select_first (rows_of 1 [] (col 1 1 ∷ col 1 2 ∷ col 1 3 ∷ col 1 4 ∷ [])
    (col 1 1 ∷ col 1 2 ∷ col 1 3 ∷ []) (col 0 0))
    (codes "sender" ∷ codes "receiver" ∷ codes "number" ∷ codes "body" ∷ [])
unfolding understood everything
select_first_asks Purchasing = ((refl, (refl, refl)), refl)
select_first_asks Warehouse = ((refl, (refl, refl)), refl)
select_first_asks Billing = ((refl, (refl, refl)), refl)

-- the query shows the first letters, by pair and then by number, up to the limit
pub reads_first : (limit : ℤ) {X : Type 0} (items : X → List Row) (old new : State) (result : Result X Error)
    → IsService old.now.schema → IfOk result (λ v. ShownAs select_first (Int limit ∷ []) old new (items v))
    → IfOk result (λ v. AreInOrder by_place (as_count (Int limit)) shown_letter (old.now.trees 1) (items v))
reads_first limit items old new result it h =
    shows_all (schema_of it.service) select_first 1
    (rows_of 1 [] (col 1 1 ∷ col 1 2 ∷ col 1 3 ∷ col 1 4 ∷ []) (col 1 1 ∷ col 1 2 ∷ col 1 3 ∷ []) (col 0 0)) _
    (select_first_asks it.service) refl refl refl refl refl (Int limit ∷ [])
    by_place shown_letter (as_count (Int limit)) (λ a b. refl) (λ x. refl) refl old new it.is refl items result h

abbrev pub select_after : List ℕ
select_after =
    codes "SELECT sender, receiver, number, body FROM outbox WHERE sender >= ?1 "
    ++ codes "AND (sender > ?1 OR receiver > ?2 OR receiver = ?2 AND number > ?3) "
    ++ codes "ORDER BY sender, receiver, number LIMIT ?4"

-- the text asks for the letters after a place, by pair and then by number
pub select_after_asks : (service : Service)
    → Asks (schema_of service) select_after (rows_of 1 after_terms (col 1 1 ∷ col 1 2 ∷ col 1 3 ∷ col 1 4 ∷ [])
    (col 1 1 ∷ col 1 2 ∷ col 1 3 ∷ []) (col 0 3))
    (codes "sender" ∷ codes "receiver" ∷ codes "number" ∷ codes "body" ∷ [])
unfolding understood everything
select_after_asks Purchasing = ((refl, (refl, refl)), refl)
select_after_asks Warehouse = ((refl, (refl, refl)), refl)
select_after_asks Billing = ((refl, (refl, refl)), refl)

-- the query shows the letters after a place, by pair and then by number, up to the limit
pub reads_after : (sender : List ℕ) (receiver : List ℕ) (number : ℤ) (limit : ℤ) {X : Type 0} (items : X → List Row)
    (old new : State) (result : Result X Error) → IsService old.now.schema
    → IfOk result (λ v. ShownAs select_after (Text sender ∷ Text receiver ∷ Int number ∷ Int limit ∷ []) old new
    (items v))
    → IfOk result (λ v. AreInOrder by_place (as_count (Int limit)) shown_letter
    (filter (is_after sender receiver number) (old.now.trees 1)) (items v))
reads_after sender receiver number limit items old new result it h =
    shows (schema_of it.service) select_after 1 after_terms (col 1 1 ∷ col 1 2 ∷ col 1 3 ∷ col 1 4 ∷ [])
    (col 1 1 ∷ col 1 2 ∷ col 1 3 ∷ []) (col 0 3) _ (select_after_asks it.service) (is_after sender receiver number)
    (Text sender ∷ Text receiver ∷ Int number ∷ Int limit ∷ [])
    (after_test sender receiver number limit) by_place shown_letter (as_count (Int limit)) (λ a b. refl) (λ x. refl)
    refl old new it.is refl items result h
