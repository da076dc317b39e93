-- What the texts on `order_heads` and `order_lines` mean and do.
use Rattle.std.proofs.Common.{◌++◌, ◌≡◌, ℕ, ℤ, List, [], ◌∷◌, filter, codes, None, Result, OnOk, IfOk, refl}
use Rattle.sqlite.specs.declared.types.Value.TheVariants.{Null, Int, Text}
use Rattle.sqlite.specs.declared.error.Error.{Error}
use Rattle.sqlite.specs.Order.{Row}
use Rattle.sqlite.specs.Command.TheVariants.{Insert, InsertOr, Delete}
use Rattle.sqlite.specs.Source.TheVariants.{Values}
use Rattle.sqlite.specs.Listing.{understood}
use Rattle.sqlite.specs.State.{State, ExecutesInside, Shown as ShownAs}
use Rattle.sqlite_rules.specs.Keys.{conflicts}
use Rattle.sqlite_schema.specs.declared.command.Conflict.TheVariants.{Replace}
use Rattle.sqlite_sql.specs.Ops.{binary, is_true}
use Rattle.sqlite_sql.specs.Term.{lit, col}
use Rattle.sqlite_sql.specs.declared.ops.BinaryOp.TheVariants.{Compare}
use Rattle.sqlite_sql.specs.declared.ops.CompareOp.TheVariants.{Eq}
use Rattle.sqlite_tied.specs.Compute.{everything}
use Rattle.sqlite_trees.specs.Tree.{rowid}
use Rattle.sqlite_value.specs.Keys.{first_key}
use Rattle.sqlite_value.specs.Order.{column}
use Rattle.sqlite_value.specs.declared.keys.Collation.TheVariants.{Binary}
use Rattle.sql_rows.specs.declared.service.Service.TheVariants.{Purchasing}
use Rattle.sql_rows.specs.Schema.{purchasing, order_heads, order_lines}
use Rattle.sql_rows.specs.Tables.{has_key, IsRising, IsCut, Puts, Adds, Edits, text_key, AreInOrder, by_text, by_pair}
use Rattle.sql_rows.proofs.Steps.{Says, simple}
use Rattle.sql_rows.proofs.Queries.{Asks, rows_of, ids, text_terms, every}
use Rattle.sql_rows.proofs.Tests.{key_test, sql_key, Joined, cast_null, cast_int, own_text}
use Rattle.sql_rows.proofs.Edits.{replaced, added, deleted}
use Rattle.sql_rows.proofs.Selects.{shows}
use Rattle.sql_rows.proofs.Services.{idle}

abbrev pub replace_head : List ℕ
replace_head =
    codes "INSERT OR REPLACE INTO order_heads (key, account, amount, status, account_phase) "
    ++ codes "VALUES (?1, ?2, ?3, ?4, ?5)"

pub replace_head_says : Says purchasing replace_head
    (InsertOr 5 Replace (Values (lit Null ∷ col 0 0 ∷ col 0 1 ∷ col 0 2 ∷ col 0 3 ∷ col 0 4 ∷ []) 6) [])
unfolding understood everything
replace_head_says = (refl, (refl, refl))

puts_head_joined : (key : List ℕ) (account : List ℕ) (amount : ℤ) (status : List ℕ) (account_phase : List ℕ) (id : ℤ)
    (x : Row)
    → conflicts None purchasing.indexes (simple order_heads)
    (Int id ∷ Text key ∷ Text account ∷ Int amount ∷ Text status ∷ Text account_phase ∷ []) x
    ≡ Joined (is_true (binary (Compare Eq Binary) (rowid x) (Int id))) (sql_key (text_key key) x)
unfolding first_key
puts_head_joined key account amount status account_phase id x = refl

-- the write puts an order's head in the place of the one that was there
pub puts_head : (key : List ℕ) (account : List ℕ) (amount : ℤ) (status : List ℕ) (account_phase : List ℕ)
    (old new : State) (result : Result ℕ Error) → old.now.schema ≡ purchasing → IsRising (old.now.trees 9)
    → ExecutesInside 0 replace_head (Text key ∷ Text account ∷ Int amount ∷ Text status ∷ Text account_phase ∷ []) old
    new result
    → OnOk result (Edits 9 (Puts (text_key key)
    (Text key ∷ Text account ∷ Int amount ∷ Text status ∷ Text account_phase ∷ [])) old new)
puts_head key account amount status account_phase old new result has rising h =
    replaced purchasing 5 order_heads refl (idle Purchasing 9) old new has rising (text_key key) (tt, tt)
    (Text key ∷ Text account ∷ Int amount ∷ Text status ∷ Text account_phase ∷ [])
    (puts_head_joined key account amount status account_phase)
    (own_text key (Text account ∷ Int amount ∷ Text status ∷ Text account_phase ∷ [])) replace_head
    (lit Null ∷ col 0 0 ∷ col 0 1 ∷ col 0 2 ∷ col 0 3 ∷ col 0 4 ∷ []) 6
    (Text key ∷ Text account ∷ Int amount ∷ Text status ∷ Text account_phase ∷ [])
    (Null ∷ Text key ∷ Text account ∷ Int amount ∷ Text status ∷ Text account_phase ∷ []) replace_head_says refl
    (λ rows. rw (cast_null, cast_int amount) refl) (λ id. rw (cast_int id, cast_int amount) refl) result h

abbrev pub delete_head : List ℕ
delete_head = codes "DELETE FROM order_heads WHERE key = ?1"

pub delete_head_says : Says purchasing delete_head (Delete 5 (record { lets = []; body = ids 9 text_terms }))
unfolding understood everything
delete_head_says = (refl, (refl, refl))

-- the write takes the head of an order away, and no other order's
pub takes_head : (key : List ℕ) (old new : State) (result : Result ℕ Error) → old.now.schema ≡ purchasing
    → IsRising (old.now.trees 9) → ExecutesInside 0 delete_head (Text key ∷ []) old new result
    → OnOk result (Edits 9 (IsCut (has_key (text_key key))) old new)
takes_head key old new result has rising h =
    deleted purchasing 5 order_heads refl (idle Purchasing 9) old new has rising text_terms (has_key (text_key key))
    (Text key ∷ []) (λ x. key_test (text_key key) x (tt, tt)) refl delete_head
    delete_head_says result h

abbrev pub insert_line : List ℕ
insert_line = codes "INSERT INTO order_lines (order_key, line, stock, n, phase) VALUES (?1, ?2, ?3, ?4, ?5)"

pub insert_line_says : Says purchasing insert_line
    (Insert 6 (Values (lit Null ∷ col 0 0 ∷ col 0 1 ∷ col 0 2 ∷ col 0 3 ∷ col 0 4 ∷ []) 6))
unfolding understood everything
insert_line_says = (refl, (refl, refl))

-- the write adds a line to an order
pub adds_line : (order : List ℕ) (line : ℤ) (stock : List ℕ) (n : ℤ) (phase : List ℕ) (old new : State)
    (result : Result ℕ Error) → old.now.schema ≡ purchasing → IsRising (old.now.trees 11)
    → ExecutesInside 0 insert_line (Text order ∷ Int line ∷ Text stock ∷ Int n ∷ Text phase ∷ []) old new result
    → OnOk result (Edits 11 (Adds (Text order ∷ Int line ∷ Text stock ∷ Int n ∷ Text phase ∷ [])) old new)
adds_line order line stock n phase old new result has rising h =
    added purchasing 6 order_lines refl (idle Purchasing 11) old new has rising
    (Text order ∷ Int line ∷ Text stock ∷ Int n ∷ Text phase ∷ []) insert_line
    (lit Null ∷ col 0 0 ∷ col 0 1 ∷ col 0 2 ∷ col 0 3 ∷ col 0 4 ∷ []) 6
    (Text order ∷ Int line ∷ Text stock ∷ Int n ∷ Text phase ∷ [])
    (Null ∷ Text order ∷ Int line ∷ Text stock ∷ Int n ∷ Text phase ∷ [])
    insert_line_says refl (rw (cast_null, cast_int line, cast_int n) refl) result h

abbrev pub delete_lines : List ℕ
delete_lines = codes "DELETE FROM order_lines WHERE order_key = ?1"

pub delete_lines_says : Says purchasing delete_lines (Delete 6 (record { lets = []; body = ids 11 text_terms }))
unfolding understood everything
delete_lines_says = (refl, (refl, refl))

-- the write takes all lines of an order away, and no other order's
pub takes_lines : (order : List ℕ) (old new : State) (result : Result ℕ Error) → old.now.schema ≡ purchasing
    → IsRising (old.now.trees 11) → ExecutesInside 0 delete_lines (Text order ∷ []) old new result
    → OnOk result (Edits 11 (IsCut (has_key (text_key order))) old new)
takes_lines order old new result has rising h =
    deleted purchasing 6 order_lines refl (idle Purchasing 11) old new has rising text_terms (has_key (text_key order))
    (Text order ∷ []) (λ x. key_test (text_key order) x (tt, tt)) refl delete_lines
    delete_lines_says result h

abbrev pub select_head : List ℕ
select_head = codes "SELECT account, amount, status, account_phase FROM order_heads WHERE key = ?1 ORDER BY key"

-- the text asks for the head of the rows of an order's key
pub select_head_asks : Asks purchasing select_head
    (rows_of 9 text_terms (col 1 2 ∷ col 1 3 ∷ col 1 4 ∷ col 1 5 ∷ []) (col 1 1 ∷ []) every)
    (codes "account" ∷ codes "amount" ∷ codes "status" ∷ codes "account_phase" ∷ [])
unfolding understood everything
select_head_asks = ((refl, (refl, refl)), refl)

-- the query shows the head of an order, if there is one
pub reads_head : (key : List ℕ) {X : Type 0} (items : X → List Row) (old new : State) (result : Result X Error)
    → old.now.schema ≡ purchasing → IfOk result (λ v. ShownAs select_head (Text key ∷ []) old new (items v))
    → IfOk result (λ v. AreInOrder by_text None (λ x. column x 2 ∷ column x 3 ∷ column x 4 ∷ column x 5 ∷ [])
    (filter (has_key (text_key key)) (old.now.trees 9)) (items v))
reads_head key items old new result has h =
    shows purchasing select_head 9 text_terms (col 1 2 ∷ col 1 3 ∷ col 1 4 ∷ col 1 5 ∷ []) (col 1 1 ∷ []) every _
    select_head_asks (has_key (text_key key)) (Text key ∷ [])
    (λ x. key_test (text_key key) x (tt, tt)) by_text (λ x. column x 2 ∷ column x 3 ∷ column x 4 ∷ column x 5 ∷ [])
    None (λ a b. refl) (λ x. refl) refl old new has refl items result h

abbrev pub select_lines : List ℕ
select_lines = codes "SELECT line, stock, n, phase FROM order_lines WHERE order_key = ?1 ORDER BY order_key, line"

-- the text asks for the lines of an order, in order of their numbers
pub select_lines_asks : Asks purchasing select_lines
    (rows_of 11 text_terms (col 1 2 ∷ col 1 3 ∷ col 1 4 ∷ col 1 5 ∷ []) (col 1 1 ∷ col 1 2 ∷ []) every)
    (codes "line" ∷ codes "stock" ∷ codes "n" ∷ codes "phase" ∷ [])
unfolding understood everything
select_lines_asks = ((refl, (refl, refl)), refl)

-- the query shows the lines of an order, in order of their numbers
pub reads_lines : (order : List ℕ) {X : Type 0} (items : X → List Row) (old new : State) (result : Result X Error)
    → old.now.schema ≡ purchasing → IfOk result (λ v. ShownAs select_lines (Text order ∷ []) old new (items v))
    → IfOk result (λ v. AreInOrder by_pair None (λ x. column x 2 ∷ column x 3 ∷ column x 4 ∷ column x 5 ∷ [])
    (filter (has_key (text_key order)) (old.now.trees 11)) (items v))
reads_lines order items old new result has h =
    shows purchasing select_lines 11 text_terms (col 1 2 ∷ col 1 3 ∷ col 1 4 ∷ col 1 5 ∷ []) (col 1 1 ∷ col 1 2 ∷ [])
    every _ select_lines_asks (has_key (text_key order)) (Text order ∷ [])
    (λ x. key_test (text_key order) x (tt, tt)) by_pair (λ x. column x 2 ∷ column x 3 ∷ column x 4 ∷ column x 5 ∷ [])
    None (λ a b. refl) (λ x. refl) refl old new has refl items result h
