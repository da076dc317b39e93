-- What the texts on `stocks` and `stock_lines` mean and do.
use Rattle.std.proofs.Common.{◌≡◌, ℕ, ℤ, List, [], ◌∷◌, filter, codes, None, Result, OnOk, IfOk, refl}
use Rattle.sqlite.specs.declared.types.Value.TheVariants.{Null, Int, Text}
use Rattle.sqlite.specs.declared.error.Error.{Error}
use Rattle.sqlite.specs.Order.{Row}
use Rattle.sqlite.specs.Command.TheVariants.{Insert, InsertOr, Delete}
use Rattle.sqlite.specs.Source.TheVariants.{Values}
use Rattle.sqlite.specs.Listing.{understood}
use Rattle.sqlite.specs.State.{State, ExecutesInside, Shown as ShownAs}
use Rattle.sqlite_rules.specs.Keys.{conflicts}
use Rattle.sqlite_schema.specs.declared.command.Conflict.TheVariants.{Replace}
use Rattle.sqlite_sql.specs.Ops.{binary, is_true}
use Rattle.sqlite_sql.specs.Term.{lit, col}
use Rattle.sqlite_sql.specs.declared.ops.BinaryOp.TheVariants.{Compare}
use Rattle.sqlite_sql.specs.declared.ops.CompareOp.TheVariants.{Eq}
use Rattle.sqlite_tied.specs.Compute.{everything}
use Rattle.sqlite_trees.specs.Tree.{rowid}
use Rattle.sqlite_value.specs.Keys.{first_key}
use Rattle.sqlite_value.specs.Order.{column}
use Rattle.sqlite_value.specs.declared.keys.Collation.TheVariants.{Binary}
use Rattle.sql_rows.specs.declared.service.Service.TheVariants.{Warehouse}
use Rattle.sql_rows.specs.Schema.{warehouse, stocks, stock_lines}
use Rattle.sql_rows.specs.Tables.{has_key, IsRising, IsCut, Puts, Adds, Edits, text_key, pair_key, AreInOrder, by_text}
use Rattle.sql_rows.specs.Tables.{by_pair}
use Rattle.sql_rows.proofs.Steps.{Says, simple}
use Rattle.sql_rows.proofs.Queries.{Asks, rows_of, ids, text_terms, pair_terms, every}
use Rattle.sql_rows.proofs.Tests.{key_test, sql_key, Joined, cast_null, cast_int, own_text, own_pair}
use Rattle.sql_rows.proofs.Edits.{replaced, added, deleted}
use Rattle.sql_rows.proofs.Selects.{shows}
use Rattle.sql_rows.proofs.Services.{idle}

abbrev pub replace_head : List ℕ
replace_head =
    codes "INSERT OR REPLACE INTO stocks (key, on_hand, held, shipped, received) VALUES (?1, ?2, ?3, ?4, ?5)"

pub replace_head_says : Says warehouse replace_head
    (InsertOr 5 Replace (Values (lit Null ∷ col 0 0 ∷ col 0 1 ∷ col 0 2 ∷ col 0 3 ∷ col 0 4 ∷ []) 6) [])
unfolding understood everything
replace_head_says = (refl, (refl, refl))

puts_head_joined : (key : List ℕ) (on_hand : ℤ) (reserved : ℤ) (shipped : ℤ) (received : ℤ) (id : ℤ) (x : Row)
    → conflicts None warehouse.indexes (simple stocks)
    (Int id ∷ Text key ∷ Int on_hand ∷ Int reserved ∷ Int shipped ∷ Int received ∷ []) x
    ≡ Joined (is_true (binary (Compare Eq Binary) (rowid x) (Int id))) (sql_key (text_key key) x)
unfolding first_key
puts_head_joined key on_hand reserved shipped received id x = refl

-- the write puts a stock's numbers in the place of those that were there
pub puts_head : (key : List ℕ) (on_hand : ℤ) (reserved : ℤ) (shipped : ℤ) (received : ℤ) (old new : State)
    (result : Result ℕ Error) → old.now.schema ≡ warehouse → IsRising (old.now.trees 9)
    → ExecutesInside 0 replace_head (Text key ∷ Int on_hand ∷ Int reserved ∷ Int shipped ∷ Int received ∷ []) old new
    result
    → OnOk result (Edits 9 (Puts (text_key key)
    (Text key ∷ Int on_hand ∷ Int reserved ∷ Int shipped ∷ Int received ∷ []))
    old new)
puts_head key on_hand reserved shipped received old new result has rising h =
    replaced warehouse 5 stocks refl (idle Warehouse 9) old new has rising (text_key key) (tt, tt)
    (Text key ∷ Int on_hand ∷ Int reserved ∷ Int shipped ∷ Int received ∷ [])
    (puts_head_joined key on_hand reserved shipped received)
    (own_text key (Int on_hand ∷ Int reserved ∷ Int shipped ∷ Int received ∷ [])) replace_head
    (lit Null ∷ col 0 0 ∷ col 0 1 ∷ col 0 2 ∷ col 0 3 ∷ col 0 4 ∷ []) 6
    (Text key ∷ Int on_hand ∷ Int reserved ∷ Int shipped ∷ Int received ∷ [])
    (Null ∷ Text key ∷ Int on_hand ∷ Int reserved ∷ Int shipped ∷ Int received ∷ []) replace_head_says refl
    (λ rows. rw (cast_null, cast_int on_hand, cast_int reserved, cast_int shipped, cast_int received) refl)
    (λ id. rw (cast_int id, cast_int on_hand, cast_int reserved, cast_int shipped, cast_int received) refl) result h

abbrev pub delete_head : List ℕ
delete_head = codes "DELETE FROM stocks WHERE key = ?1"

pub delete_head_says : Says warehouse delete_head (Delete 5 (record { lets = []; body = ids 9 text_terms }))
unfolding understood everything
delete_head_says = (refl, (refl, refl))

-- the write takes the numbers of a stock away, and no other stock's
pub takes_head : (key : List ℕ) (old new : State) (result : Result ℕ Error) → old.now.schema ≡ warehouse
    → IsRising (old.now.trees 9) → ExecutesInside 0 delete_head (Text key ∷ []) old new result
    → OnOk result (Edits 9 (IsCut (has_key (text_key key))) old new)
takes_head key old new result has rising h =
    deleted warehouse 5 stocks refl (idle Warehouse 9) old new has rising text_terms (has_key (text_key key))
    (Text key ∷ []) (λ x. key_test (text_key key) x (tt, tt)) refl delete_head
    delete_head_says result h

abbrev pub insert_line : List ℕ
insert_line = codes "INSERT INTO stock_lines (stock, order_key, n, phase) VALUES (?1, ?2, ?3, ?4)"

pub insert_line_says : Says warehouse insert_line
    (Insert 6 (Values (lit Null ∷ col 0 0 ∷ col 0 1 ∷ col 0 2 ∷ col 0 3 ∷ []) 5))
unfolding understood everything
insert_line_says = (refl, (refl, refl))

-- the write adds the line of an order to a stock
pub adds_line : (stock : List ℕ) (order : List ℕ) (n : ℤ) (phase : List ℕ) (old new : State) (result : Result ℕ Error)
    → old.now.schema ≡ warehouse → IsRising (old.now.trees 11)
    → ExecutesInside 0 insert_line (Text stock ∷ Text order ∷ Int n ∷ Text phase ∷ []) old new result
    → OnOk result (Edits 11 (Adds (Text stock ∷ Text order ∷ Int n ∷ Text phase ∷ [])) old new)
adds_line stock order n phase old new result has rising h =
    added warehouse 6 stock_lines refl (idle Warehouse 11) old new has rising
    (Text stock ∷ Text order ∷ Int n ∷ Text phase ∷ []) insert_line
    (lit Null ∷ col 0 0 ∷ col 0 1 ∷ col 0 2 ∷ col 0 3 ∷ []) 5 (Text stock ∷ Text order ∷ Int n ∷ Text phase ∷ [])
    (Null ∷ Text stock ∷ Text order ∷ Int n ∷ Text phase ∷ [])
    insert_line_says refl (rw (cast_null, cast_int n) refl) result h

abbrev pub delete_lines : List ℕ
delete_lines = codes "DELETE FROM stock_lines WHERE stock = ?1"

pub delete_lines_says : Says warehouse delete_lines (Delete 6 (record { lets = []; body = ids 11 text_terms }))
unfolding understood everything
delete_lines_says = (refl, (refl, refl))

-- the write takes all lines of a stock away, and no other stock's
pub takes_lines : (stock : List ℕ) (old new : State) (result : Result ℕ Error) → old.now.schema ≡ warehouse
    → IsRising (old.now.trees 11) → ExecutesInside 0 delete_lines (Text stock ∷ []) old new result
    → OnOk result (Edits 11 (IsCut (has_key (text_key stock))) old new)
takes_lines stock old new result has rising h =
    deleted warehouse 6 stock_lines refl (idle Warehouse 11) old new has rising text_terms (has_key (text_key stock))
    (Text stock ∷ []) (λ x. key_test (text_key stock) x (tt, tt)) refl delete_lines
    delete_lines_says result h

abbrev pub select_head : List ℕ
select_head = codes "SELECT on_hand, held, shipped, received FROM stocks WHERE key = ?1 ORDER BY key"

-- the text asks for the numbers of the rows of a stock's key
pub select_head_asks : Asks warehouse select_head
    (rows_of 9 text_terms (col 1 2 ∷ col 1 3 ∷ col 1 4 ∷ col 1 5 ∷ []) (col 1 1 ∷ []) every)
    (codes "on_hand" ∷ codes "held" ∷ codes "shipped" ∷ codes "received" ∷ [])
unfolding understood everything
select_head_asks = ((refl, (refl, refl)), refl)

-- the query shows the numbers of a stock, if there is one
pub reads_head : (key : List ℕ) {X : Type 0} (items : X → List Row) (old new : State) (result : Result X Error)
    → old.now.schema ≡ warehouse → IfOk result (λ v. ShownAs select_head (Text key ∷ []) old new (items v))
    → IfOk result (λ v. AreInOrder by_text None (λ x. column x 2 ∷ column x 3 ∷ column x 4 ∷ column x 5 ∷ [])
    (filter (has_key (text_key key)) (old.now.trees 9)) (items v))
reads_head key items old new result has h =
    shows warehouse select_head 9 text_terms (col 1 2 ∷ col 1 3 ∷ col 1 4 ∷ col 1 5 ∷ []) (col 1 1 ∷ []) every _
    select_head_asks (has_key (text_key key)) (Text key ∷ [])
    (λ x. key_test (text_key key) x (tt, tt)) by_text (λ x. column x 2 ∷ column x 3 ∷ column x 4 ∷ column x 5 ∷ [])
    None (λ a b. refl) (λ x. refl) refl old new has refl items result h

abbrev pub select_lines : List ℕ
select_lines = codes "SELECT order_key, n, phase FROM stock_lines WHERE stock = ?1 ORDER BY stock, order_key"

-- the text asks for the lines of a stock, in order of their orders' keys
pub select_lines_asks : Asks warehouse select_lines
    (rows_of 11 text_terms (col 1 2 ∷ col 1 3 ∷ col 1 4 ∷ []) (col 1 1 ∷ col 1 2 ∷ []) every)
    (codes "order_key" ∷ codes "n" ∷ codes "phase" ∷ [])
unfolding understood everything
select_lines_asks = ((refl, (refl, refl)), refl)

-- the query shows the lines of a stock, in order of their orders' keys
pub reads_lines : (stock : List ℕ) {X : Type 0} (items : X → List Row) (old new : State) (result : Result X Error)
    → old.now.schema ≡ warehouse → IfOk result (λ v. ShownAs select_lines (Text stock ∷ []) old new (items v))
    → IfOk result (λ v. AreInOrder by_pair None (λ x. column x 2 ∷ column x 3 ∷ column x 4 ∷ [])
    (filter (has_key (text_key stock)) (old.now.trees 11)) (items v))
reads_lines stock items old new result has h =
    shows warehouse select_lines 11 text_terms (col 1 2 ∷ col 1 3 ∷ col 1 4 ∷ []) (col 1 1 ∷ col 1 2 ∷ []) every _
    select_lines_asks (has_key (text_key stock)) (Text stock ∷ [])
    (λ x. key_test (text_key stock) x (tt, tt)) by_pair (λ x. column x 2 ∷ column x 3 ∷ column x 4 ∷ []) None
    (λ a b. refl) (λ x. refl) refl old new has refl items result h

abbrev pub replace_line : List ℕ
replace_line = codes "INSERT OR REPLACE INTO stock_lines (stock, order_key, n, phase) VALUES (?1, ?2, ?3, ?4)"

pub replace_line_says : Says warehouse replace_line
    (InsertOr 6 Replace (Values (lit Null ∷ col 0 0 ∷ col 0 1 ∷ col 0 2 ∷ col 0 3 ∷ []) 5) [])
unfolding understood everything
replace_line_says = (refl, (refl, refl))

puts_line_joined : (stock : List ℕ) (order : List ℕ) (n : ℤ) (phase : List ℕ) (id : ℤ) (x : Row)
    → conflicts None warehouse.indexes (simple stock_lines)
    (Int id ∷ Text stock ∷ Text order ∷ Int n ∷ Text phase ∷ []) x
    ≡ Joined (is_true (binary (Compare Eq Binary) (rowid x) (Int id))) (sql_key (pair_key stock order) x)
unfolding first_key
puts_line_joined stock order n phase id x = refl

-- the write puts the line of an order in the place of the one that was there
pub puts_line : (stock : List ℕ) (order : List ℕ) (n : ℤ) (phase : List ℕ) (old new : State) (result : Result ℕ Error)
    → old.now.schema ≡ warehouse → IsRising (old.now.trees 11)
    → ExecutesInside 0 replace_line (Text stock ∷ Text order ∷ Int n ∷ Text phase ∷ []) old new result
    → OnOk result (Edits 11 (Puts (pair_key stock order) (Text stock ∷ Text order ∷ Int n ∷ Text phase ∷ [])) old new)
puts_line stock order n phase old new result has rising h =
    replaced warehouse 6 stock_lines refl (idle Warehouse 11) old new has rising (pair_key stock order) (tt, (tt, tt))
    (Text stock ∷ Text order ∷ Int n ∷ Text phase ∷ []) (puts_line_joined stock order n phase)
    (own_pair stock order (Int n ∷ Text phase ∷ [])) replace_line
    (lit Null ∷ col 0 0 ∷ col 0 1 ∷ col 0 2 ∷ col 0 3 ∷ []) 5 (Text stock ∷ Text order ∷ Int n ∷ Text phase ∷ [])
    (Null ∷ Text stock ∷ Text order ∷ Int n ∷ Text phase ∷ []) replace_line_says refl
    (λ rows. rw (cast_null, cast_int n) refl) (λ id. rw (cast_int id, cast_int n) refl) result h

abbrev pub delete_line : List ℕ
delete_line = codes "DELETE FROM stock_lines WHERE stock = ?1 AND order_key = ?2"

pub delete_line_says : Says warehouse delete_line (Delete 6 (record { lets = []; body = ids 11 pair_terms }))
unfolding understood everything
delete_line_says = (refl, (refl, refl))

-- the write takes the line of an order away, and no other line
pub takes_line : (stock : List ℕ) (order : List ℕ) (old new : State) (result : Result ℕ Error)
    → old.now.schema ≡ warehouse → IsRising (old.now.trees 11)
    → ExecutesInside 0 delete_line (Text stock ∷ Text order ∷ []) old new result
    → OnOk result (Edits 11 (IsCut (has_key (pair_key stock order))) old new)
takes_line stock order old new result has rising h =
    deleted warehouse 6 stock_lines refl (idle Warehouse 11) old new has rising pair_terms
    (has_key (pair_key stock order)) (Text stock ∷ Text order ∷ [])
    (λ x. key_test (pair_key stock order) x (tt, (tt, tt))) refl delete_line
    delete_line_says result h
