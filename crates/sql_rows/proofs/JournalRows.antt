-- What the texts on `journal` mean and do.
use Rattle.std.proofs.Common.{◌≡◌, ℕ, ℤ, pos, List, [], ◌∷◌, filter, codes, length}
use Rattle.std.proofs.Common.{slice_get, Some, Result, OnOk, IfOk, refl}
use Rattle.sqlite.specs.declared.types.Value.TheVariants.{Null, Int, Text}
use Rattle.sqlite.specs.declared.error.Error.{Error}
use Rattle.sqlite.specs.Order.{Row}
use Rattle.sqlite.specs.Command.TheVariants.{Insert}
use Rattle.sqlite.specs.Source.TheVariants.{Values}
use Rattle.sqlite.specs.Listing.{understood}
use Rattle.sqlite.specs.State.{State, ExecutesInside, Shown as ShownAs}
use Rattle.sqlite_sql.specs.Query.{as_count}
use Rattle.sqlite_sql.specs.Term.{lit, col, holds}
use Rattle.sqlite_tied.specs.Compute.{everything}
use Rattle.sqlite_value.specs.Order.{column}
use Rattle.sql_rows.specs.declared.service.Service.{Service}
use Rattle.sql_rows.specs.declared.service.Service.TheVariants.{Purchasing, Warehouse, Billing}
use Rattle.sql_rows.specs.Schema.{IsService, schema_of, journal}
use Rattle.sql_rows.specs.Tables.{IsRising, Adds, Edits, is_from, AreInOrder, by_position, by_position_down, down}
use Rattle.sql_rows.specs.Tables.{shown_entry, is_within}
use Rattle.std.specs.List.{list_all}
use Rattle.sql_rows.proofs.Steps.{Says}
use Rattle.sql_rows.proofs.Queries.{Asks, rows_of}
use Rattle.sql_rows.proofs.Tests.{cast_null, cast_int, from_terms, from_test, within_terms, within_test}
use Rattle.sql_rows.proofs.Edits.{added}
use Rattle.sql_rows.proofs.Selects.{shows, shows_all, kept_rows, whole_table}
use Rattle.sql_rows.proofs.Counting.{count_of, shows_count}
use Rattle.sqlite_sql.specs.Aggregate.{count}
use Rattle.sql_rows.proofs.Services.{idle}

pub journal_there : (service : Service) → slice_get (schema_of service).tables 0 ≡ Some journal
journal_there Purchasing = refl
journal_there Warehouse = refl
journal_there Billing = refl

abbrev pub insert_command : List ℕ
insert_command = codes "INSERT INTO journal (entity, seat, body) VALUES (?1, ?2, ?3)"

pub insert_command_says : (service : Service)
    → Says (schema_of service) insert_command
    (Insert 0 (Values (lit Null ∷ lit Null ∷ col 0 0 ∷ col 0 1 ∷ lit Null ∷ lit Null ∷ col 0 2 ∷ []) 7))
unfolding understood everything
insert_command_says Purchasing = (refl, (refl, refl))
insert_command_says Warehouse = (refl, (refl, refl))
insert_command_says Billing = (refl, (refl, refl))

-- the write adds a row of a command at the position after the last
pub adds_command : (entity : List ℕ) (seat : ℤ) (body : List ℕ) (old new : State) (result : Result ℕ Error)
    → IsService old.now.schema → IsRising (old.now.trees 0)
    → ExecutesInside 0 insert_command (Text entity ∷ Int seat ∷ Text body ∷ []) old new result
    → OnOk result (Edits 0 (Adds (Null ∷ Text entity ∷ Int seat ∷ Null ∷ Null ∷ Text body ∷ [])) old new)
adds_command entity seat body old new result it rising h =
    added (schema_of it.service) 0 journal (journal_there it.service) (idle it.service 0) old new it.is rising
    (Null ∷ Text entity ∷ Int seat ∷ Null ∷ Null ∷ Text body ∷ []) insert_command
    (lit Null ∷ lit Null ∷ col 0 0 ∷ col 0 1 ∷ lit Null ∷ lit Null ∷ col 0 2 ∷ []) 7
    (Text entity ∷ Int seat ∷ Text body ∷ []) (Null ∷ Null ∷ Text entity ∷ Int seat ∷ Null ∷ Null ∷ Text body ∷ [])
    (insert_command_says it.service) refl (rw (cast_null, cast_int seat) refl) result h

abbrev pub insert_message : List ℕ
insert_message = codes "INSERT INTO journal (entity, sender, number, body) VALUES (?1, ?2, ?3, ?4)"

pub insert_message_says : (service : Service)
    → Says (schema_of service) insert_message
    (Insert 0 (Values (lit Null ∷ lit Null ∷ col 0 0 ∷ lit Null ∷ col 0 1 ∷ col 0 2 ∷ col 0 3 ∷ []) 7))
unfolding understood everything
insert_message_says Purchasing = (refl, (refl, refl))
insert_message_says Warehouse = (refl, (refl, refl))
insert_message_says Billing = (refl, (refl, refl))

-- the write adds a row of a message at the position after the last
pub adds_message : (entity : List ℕ) (sender : List ℕ) (number : ℤ) (body : List ℕ) (old new : State)
    (result : Result ℕ Error) → IsService old.now.schema → IsRising (old.now.trees 0)
    → ExecutesInside 0 insert_message (Text entity ∷ Text sender ∷ Int number ∷ Text body ∷ []) old new result
    → OnOk result (Edits 0 (Adds (Null ∷ Text entity ∷ Null ∷ Text sender ∷ Int number ∷ Text body ∷ [])) old new)
adds_message entity sender number body old new result it rising h =
    added (schema_of it.service) 0 journal (journal_there it.service) (idle it.service 0) old new it.is rising
    (Null ∷ Text entity ∷ Null ∷ Text sender ∷ Int number ∷ Text body ∷ []) insert_message
    (lit Null ∷ lit Null ∷ col 0 0 ∷ lit Null ∷ col 0 1 ∷ col 0 2 ∷ col 0 3 ∷ []) 7
    (Text entity ∷ Text sender ∷ Int number ∷ Text body ∷ [])
    (Null ∷ Null ∷ Text entity ∷ Null ∷ Text sender ∷ Int number ∷ Text body ∷ [])
    (insert_message_says it.service) refl (rw (cast_null, cast_int number) refl) result h

abbrev pub select_from : List ℕ
select_from =
    codes "SELECT pos, entity, seat, sender, number, body FROM journal WHERE pos >= ?1 ORDER BY pos LIMIT ?2"

-- the text asks for the rows from a position on, in order
pub select_from_asks : (service : Service)
    → Asks (schema_of service) select_from (rows_of 0 from_terms
    (col 1 0 ∷ col 1 2 ∷ col 1 3 ∷ col 1 4 ∷ col 1 5 ∷ col 1 6 ∷ []) (col 1 0 ∷ []) (col 0 1))
    (codes "pos" ∷ codes "entity" ∷ codes "seat" ∷ codes "sender" ∷ codes "number" ∷ codes "body" ∷ [])
unfolding understood everything
select_from_asks Purchasing = ((refl, (refl, refl)), refl)
select_from_asks Warehouse = ((refl, (refl, refl)), refl)
select_from_asks Billing = ((refl, (refl, refl)), refl)

-- the query shows the rows from a position on, in order, up to the limit
pub reads_from : (from : ℤ) (limit : ℤ) {X : Type 0} (items : X → List Row) (old new : State) (result : Result X Error)
    → IsService old.now.schema → IfOk result (λ v. ShownAs select_from (Int from ∷ Int limit ∷ []) old new (items v))
    → IfOk result (λ v. AreInOrder by_position (as_count (Int limit)) shown_entry
    (filter (is_from from) (old.now.trees 0)) (items v))
reads_from from limit items old new result it h =
    shows (schema_of it.service) select_from 0 from_terms
    (col 1 0 ∷ col 1 2 ∷ col 1 3 ∷ col 1 4 ∷ col 1 5 ∷ col 1 6 ∷ []) (col 1 0 ∷ []) (col 0 1) _
    (select_from_asks it.service) (is_from from) (Int from ∷ Int limit ∷ [])
    (from_test from limit) by_position shown_entry (as_count (Int limit)) (λ a b. refl) (λ x. refl) refl old new it.is
    refl items result h

abbrev pub select_last : List ℕ
select_last = codes "SELECT pos FROM journal ORDER BY pos DESC LIMIT 1"

-- the text asks for the last position
pub select_last_asks : (service : Service)
    → Asks (schema_of service) select_last (record (rows_of 0 [] (col 1 0 ∷ []) [] (lit (Int (pos 1))))
    { order = (col 1 0, down) ∷ [] }) (codes "pos" ∷ [])
unfolding understood everything
select_last_asks Purchasing = ((refl, (refl, refl)), refl)
select_last_asks Warehouse = ((refl, (refl, refl)), refl)
select_last_asks Billing = ((refl, (refl, refl)), refl)

-- the query shows the last position, if there is a row
pub reads_last : {X : Type 0} (items : X → List Row) (old new : State) (result : Result X Error)
    → IsService old.now.schema → IfOk result (λ v. ShownAs select_last [] old new (items v))
    → IfOk result (λ v. AreInOrder by_position_down (Some 1) (λ x. column x 0 ∷ []) (old.now.trees 0) (items v))
reads_last items old new result it h =
    shows_all (schema_of it.service) select_last 0
    (record (rows_of 0 [] (col 1 0 ∷ []) [] (lit (Int (pos 1)))) { order = (col 1 0, down) ∷ [] }) _
    (select_last_asks it.service) refl refl refl refl refl []
    by_position_down (λ x. column x 0 ∷ []) (Some 1) (λ a b. refl) (λ x. refl) refl old new it.is refl items result h

abbrev pub select_count : List ℕ
select_count = codes "SELECT count(*) FROM journal"

-- the text asks for the number of rows
pub select_count_asks : (service : Service)
    → Asks (schema_of service) select_count (count_of 0 []) (codes "count(*)" ∷ [])
unfolding understood everything
select_count_asks Purchasing = ((refl, (refl, refl)), refl)
select_count_asks Warehouse = ((refl, (refl, refl)), refl)
select_count_asks Billing = ((refl, (refl, refl)), refl)

-- the query shows the number of rows
pub reads_count : {X : Type 0} (items : X → List Row) (old new : State) (result : Result X Error)
    → IsService old.now.schema → IfOk result (λ v. ShownAs select_count [] old new (items v))
    → IfOk result (λ v. items v ≡ (count (length (old.now.trees 0)) ∷ []) ∷ [])
reads_count items old new result it h =
    shows_count 0 [] [] (schema_of it.service) select_count _ (select_count_asks it.service) old new it.is
    (old.now.trees 0) (whole_table (λ r. [] ∷ r ∷ []) (old.now.trees 0)) items result h

abbrev pub select_within : List ℕ
select_within = codes "SELECT count(*) FROM journal WHERE pos >= ?1 AND pos <= ?2"

-- the text asks for the number of rows between two positions
pub select_within_asks : (service : Service)
    → Asks (schema_of service) select_within (count_of 0 within_terms) (codes "count(*)" ∷ [])
unfolding understood everything
select_within_asks Purchasing = ((refl, (refl, refl)), refl)
select_within_asks Warehouse = ((refl, (refl, refl)), refl)
select_within_asks Billing = ((refl, (refl, refl)), refl)

-- the query shows the number of rows between two positions
pub reads_within : (first last : ℤ) {X : Type 0} (items : X → List Row) (old new : State) (result : Result X Error)
    → IsService old.now.schema
    → IfOk result (λ v. ShownAs select_within (Int first ∷ Int last ∷ []) old new (items v))
    → IfOk result (λ v. items v ≡ (count (length (filter (is_within first last) (old.now.trees 0))) ∷ []) ∷ [])
reads_within first last items old new result it h =
    let params = Int first ∷ Int last ∷ [] in
    shows_count 0 within_terms params (schema_of it.service) select_within _ (select_within_asks it.service) old new
    it.is (filter (is_within first last) (old.now.trees 0))
    (kept_rows (λ x. list_all (holds (params ∷ x ∷ [])) within_terms) (is_within first last) (λ x. params ∷ x ∷ [])
    (old.now.trees 0) (within_test first last)) items result h
