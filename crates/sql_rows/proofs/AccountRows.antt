-- What the texts on `accounts` and `account_lines` mean and do.
use Rattle.std.proofs.Common.{◌≡◌, ℕ, ℤ, List, [], ◌∷◌, filter, codes, None, Result, OnOk, IfOk, refl}
use Rattle.sqlite.specs.declared.types.Value.TheVariants.{Null, Int, Text}
use Rattle.sqlite.specs.declared.error.Error.{Error}
use Rattle.sqlite.specs.Order.{Row}
use Rattle.sqlite.specs.Command.TheVariants.{Insert, InsertOr, Delete}
use Rattle.sqlite.specs.Source.TheVariants.{Values}
use Rattle.sqlite.specs.Listing.{understood}
use Rattle.sqlite.specs.State.{State, ExecutesInside, Shown as ShownAs}
use Rattle.sqlite_rules.specs.Keys.{conflicts}
use Rattle.sqlite_schema.specs.declared.command.Conflict.TheVariants.{Replace}
use Rattle.sqlite_sql.specs.Ops.{binary, is_true}
use Rattle.sqlite_sql.specs.Term.{lit, col}
use Rattle.sqlite_sql.specs.declared.ops.BinaryOp.TheVariants.{Compare}
use Rattle.sqlite_sql.specs.declared.ops.CompareOp.TheVariants.{Eq}
use Rattle.sqlite_tied.specs.Compute.{everything}
use Rattle.sqlite_trees.specs.Tree.{rowid}
use Rattle.sqlite_value.specs.Keys.{first_key}
use Rattle.sqlite_value.specs.Order.{column}
use Rattle.sqlite_value.specs.declared.keys.Collation.TheVariants.{Binary}
use Rattle.sql_rows.specs.declared.service.Service.TheVariants.{Billing}
use Rattle.sql_rows.specs.Schema.{billing, accounts, account_lines}
use Rattle.sql_rows.specs.Tables.{has_key, IsRising, IsCut, Puts, Adds, Edits, text_key, pair_key, AreInOrder, by_text}
use Rattle.sql_rows.specs.Tables.{by_pair}
use Rattle.sql_rows.proofs.Steps.{Says, simple}
use Rattle.sql_rows.proofs.Queries.{Asks, rows_of, ids, text_terms, pair_terms, every}
use Rattle.sql_rows.proofs.Tests.{key_test, sql_key, Joined, cast_null, cast_int, own_text, own_pair}
use Rattle.sql_rows.proofs.Edits.{replaced, added, deleted}
use Rattle.sql_rows.proofs.Selects.{shows}
use Rattle.sql_rows.proofs.Services.{idle}

abbrev pub replace_head : List ℕ
replace_head = codes "INSERT OR REPLACE INTO accounts (key, limit_now, billed, held) VALUES (?1, ?2, ?3, ?4)"

pub replace_head_says : Says billing replace_head
    (InsertOr 5 Replace (Values (lit Null ∷ col 0 0 ∷ col 0 1 ∷ col 0 2 ∷ col 0 3 ∷ []) 5) [])
unfolding understood everything
replace_head_says = (refl, (refl, refl))

puts_head_joined : (key : List ℕ) (limit_now : ℤ) (billed : ℤ) (reserved : ℤ) (id : ℤ) (x : Row)
    → conflicts None billing.indexes (simple accounts)
    (Int id ∷ Text key ∷ Int limit_now ∷ Int billed ∷ Int reserved ∷ [])
    x ≡ Joined (is_true (binary (Compare Eq Binary) (rowid x) (Int id))) (sql_key (text_key key) x)
unfolding first_key
puts_head_joined key limit_now billed reserved id x = refl

-- the write puts an account's numbers in the place of those that were there
pub puts_head : (key : List ℕ) (limit_now : ℤ) (billed : ℤ) (reserved : ℤ) (old new : State) (result : Result ℕ Error)
    → old.now.schema ≡ billing → IsRising (old.now.trees 9)
    → ExecutesInside 0 replace_head (Text key ∷ Int limit_now ∷ Int billed ∷ Int reserved ∷ []) old new result
    → OnOk result (Edits 9 (Puts (text_key key) (Text key ∷ Int limit_now ∷ Int billed ∷ Int reserved ∷ [])) old new)
puts_head key limit_now billed reserved old new result has rising h =
    replaced billing 5 accounts refl (idle Billing 9) old new has rising (text_key key) (tt, tt)
    (Text key ∷ Int limit_now ∷ Int billed ∷ Int reserved ∷ []) (puts_head_joined key limit_now billed reserved)
    (own_text key (Int limit_now ∷ Int billed ∷ Int reserved ∷ [])) replace_head
    (lit Null ∷ col 0 0 ∷ col 0 1 ∷ col 0 2 ∷ col 0 3 ∷ []) 5
    (Text key ∷ Int limit_now ∷ Int billed ∷ Int reserved ∷ [])
    (Null ∷ Text key ∷ Int limit_now ∷ Int billed ∷ Int reserved ∷ []) replace_head_says refl
    (λ rows. rw (cast_null, cast_int limit_now, cast_int billed, cast_int reserved) refl)
    (λ id. rw (cast_int id, cast_int limit_now, cast_int billed, cast_int reserved) refl) result h

abbrev pub delete_head : List ℕ
delete_head = codes "DELETE FROM accounts WHERE key = ?1"

pub delete_head_says : Says billing delete_head (Delete 5 (record { lets = []; body = ids 9 text_terms }))
unfolding understood everything
delete_head_says = (refl, (refl, refl))

-- the write takes the numbers of an account away, and no other account's
pub takes_head : (key : List ℕ) (old new : State) (result : Result ℕ Error) → old.now.schema ≡ billing
    → IsRising (old.now.trees 9) → ExecutesInside 0 delete_head (Text key ∷ []) old new result
    → OnOk result (Edits 9 (IsCut (has_key (text_key key))) old new)
takes_head key old new result has rising h =
    deleted billing 5 accounts refl (idle Billing 9) old new has rising text_terms (has_key (text_key key))
    (Text key ∷ []) (λ x. key_test (text_key key) x (tt, tt)) refl delete_head
    delete_head_says result h

abbrev pub insert_line : List ℕ
insert_line = codes "INSERT INTO account_lines (account, order_key, n, phase) VALUES (?1, ?2, ?3, ?4)"

pub insert_line_says : Says billing insert_line
    (Insert 6 (Values (lit Null ∷ col 0 0 ∷ col 0 1 ∷ col 0 2 ∷ col 0 3 ∷ []) 5))
unfolding understood everything
insert_line_says = (refl, (refl, refl))

-- the write adds the line of an order to an account
pub adds_line : (account : List ℕ) (order : List ℕ) (n : ℤ) (phase : List ℕ) (old new : State)
    (result : Result ℕ Error) → old.now.schema ≡ billing → IsRising (old.now.trees 11)
    → ExecutesInside 0 insert_line (Text account ∷ Text order ∷ Int n ∷ Text phase ∷ []) old new result
    → OnOk result (Edits 11 (Adds (Text account ∷ Text order ∷ Int n ∷ Text phase ∷ [])) old new)
adds_line account order n phase old new result has rising h =
    added billing 6 account_lines refl (idle Billing 11) old new has rising
    (Text account ∷ Text order ∷ Int n ∷ Text phase ∷ []) insert_line
    (lit Null ∷ col 0 0 ∷ col 0 1 ∷ col 0 2 ∷ col 0 3 ∷ []) 5 (Text account ∷ Text order ∷ Int n ∷ Text phase ∷ [])
    (Null ∷ Text account ∷ Text order ∷ Int n ∷ Text phase ∷ [])
    insert_line_says refl (rw (cast_null, cast_int n) refl) result h

abbrev pub delete_lines : List ℕ
delete_lines = codes "DELETE FROM account_lines WHERE account = ?1"

pub delete_lines_says : Says billing delete_lines (Delete 6 (record { lets = []; body = ids 11 text_terms }))
unfolding understood everything
delete_lines_says = (refl, (refl, refl))

-- the write takes all lines of an account away, and no other account's
pub takes_lines : (account : List ℕ) (old new : State) (result : Result ℕ Error) → old.now.schema ≡ billing
    → IsRising (old.now.trees 11) → ExecutesInside 0 delete_lines (Text account ∷ []) old new result
    → OnOk result (Edits 11 (IsCut (has_key (text_key account))) old new)
takes_lines account old new result has rising h =
    deleted billing 6 account_lines refl (idle Billing 11) old new has rising text_terms (has_key (text_key account))
    (Text account ∷ []) (λ x. key_test (text_key account) x (tt, tt)) refl delete_lines
    delete_lines_says result h

abbrev pub select_head : List ℕ
select_head = codes "SELECT limit_now, billed, held FROM accounts WHERE key = ?1 ORDER BY key"

-- the text asks for the numbers of the rows of an account's key
pub select_head_asks : Asks billing select_head
    (rows_of 9 text_terms (col 1 2 ∷ col 1 3 ∷ col 1 4 ∷ []) (col 1 1 ∷ []) every)
    (codes "limit_now" ∷ codes "billed" ∷ codes "held" ∷ [])
unfolding understood everything
select_head_asks = ((refl, (refl, refl)), refl)

-- the query shows the numbers of an account, if there is one
pub reads_head : (key : List ℕ) {X : Type 0} (items : X → List Row) (old new : State) (result : Result X Error)
    → old.now.schema ≡ billing → IfOk result (λ v. ShownAs select_head (Text key ∷ []) old new (items v))
    → IfOk result (λ v. AreInOrder by_text None (λ x. column x 2 ∷ column x 3 ∷ column x 4 ∷ [])
    (filter (has_key (text_key key)) (old.now.trees 9)) (items v))
reads_head key items old new result has h =
    shows billing select_head 9 text_terms (col 1 2 ∷ col 1 3 ∷ col 1 4 ∷ []) (col 1 1 ∷ []) every _ select_head_asks
    (has_key (text_key key)) (Text key ∷ [])
    (λ x. key_test (text_key key) x (tt, tt)) by_text (λ x. column x 2 ∷ column x 3 ∷ column x 4 ∷ []) None
    (λ a b. refl) (λ x. refl) refl old new has refl items result h

abbrev pub select_lines : List ℕ
select_lines = codes "SELECT order_key, n, phase FROM account_lines WHERE account = ?1 ORDER BY account, order_key"

-- the text asks for the lines of an account, in order of their orders' keys
pub select_lines_asks : Asks billing select_lines
    (rows_of 11 text_terms (col 1 2 ∷ col 1 3 ∷ col 1 4 ∷ []) (col 1 1 ∷ col 1 2 ∷ []) every)
    (codes "order_key" ∷ codes "n" ∷ codes "phase" ∷ [])
unfolding understood everything
select_lines_asks = ((refl, (refl, refl)), refl)

-- the query shows the lines of an account, in order of their orders' keys
pub reads_lines : (account : List ℕ) {X : Type 0} (items : X → List Row) (old new : State) (result : Result X Error)
    → old.now.schema ≡ billing → IfOk result (λ v. ShownAs select_lines (Text account ∷ []) old new (items v))
    → IfOk result (λ v. AreInOrder by_pair None (λ x. column x 2 ∷ column x 3 ∷ column x 4 ∷ [])
    (filter (has_key (text_key account)) (old.now.trees 11)) (items v))
reads_lines account items old new result has h =
    shows billing select_lines 11 text_terms (col 1 2 ∷ col 1 3 ∷ col 1 4 ∷ []) (col 1 1 ∷ col 1 2 ∷ []) every _
    select_lines_asks (has_key (text_key account)) (Text account ∷ [])
    (λ x. key_test (text_key account) x (tt, tt)) by_pair (λ x. column x 2 ∷ column x 3 ∷ column x 4 ∷ []) None
    (λ a b. refl) (λ x. refl) refl old new has refl items result h

abbrev pub replace_line : List ℕ
replace_line = codes "INSERT OR REPLACE INTO account_lines (account, order_key, n, phase) VALUES (?1, ?2, ?3, ?4)"

pub replace_line_says : Says billing replace_line
    (InsertOr 6 Replace (Values (lit Null ∷ col 0 0 ∷ col 0 1 ∷ col 0 2 ∷ col 0 3 ∷ []) 5) [])
unfolding understood everything
replace_line_says = (refl, (refl, refl))

puts_line_joined : (account : List ℕ) (order : List ℕ) (n : ℤ) (phase : List ℕ) (id : ℤ) (x : Row)
    → conflicts None billing.indexes (simple account_lines)
    (Int id ∷ Text account ∷ Text order ∷ Int n ∷ Text phase ∷ []) x
    ≡ Joined (is_true (binary (Compare Eq Binary) (rowid x) (Int id))) (sql_key (pair_key account order) x)
unfolding first_key
puts_line_joined account order n phase id x = refl

-- the write puts the line of an order in the place of the one that was there
pub puts_line : (account : List ℕ) (order : List ℕ) (n : ℤ) (phase : List ℕ) (old new : State)
    (result : Result ℕ Error) → old.now.schema ≡ billing → IsRising (old.now.trees 11)
    → ExecutesInside 0 replace_line (Text account ∷ Text order ∷ Int n ∷ Text phase ∷ []) old new result
    → OnOk result (Edits 11 (Puts (pair_key account order) (Text account ∷ Text order ∷ Int n ∷ Text phase ∷ [])) old
    new)
puts_line account order n phase old new result has rising h =
    replaced billing 6 account_lines refl (idle Billing 11) old new has rising (pair_key account order) (tt, (tt, tt))
    (Text account ∷ Text order ∷ Int n ∷ Text phase ∷ []) (puts_line_joined account order n phase)
    (own_pair account order (Int n ∷ Text phase ∷ [])) replace_line
    (lit Null ∷ col 0 0 ∷ col 0 1 ∷ col 0 2 ∷ col 0 3 ∷ []) 5
    (Text account ∷ Text order ∷ Int n ∷ Text phase ∷ [])
    (Null ∷ Text account ∷ Text order ∷ Int n ∷ Text phase ∷ []) replace_line_says refl
    (λ rows. rw (cast_null, cast_int n) refl) (λ id. rw (cast_int id, cast_int n) refl) result h

abbrev pub delete_line : List ℕ
delete_line = codes "DELETE FROM account_lines WHERE account = ?1 AND order_key = ?2"

pub delete_line_says : Says billing delete_line (Delete 6 (record { lets = []; body = ids 11 pair_terms }))
unfolding understood everything
delete_line_says = (refl, (refl, refl))

-- the write takes the line of an order away, and no other line
pub takes_line : (account : List ℕ) (order : List ℕ) (old new : State) (result : Result ℕ Error)
    → old.now.schema ≡ billing → IsRising (old.now.trees 11)
    → ExecutesInside 0 delete_line (Text account ∷ Text order ∷ []) old new result
    → OnOk result (Edits 11 (IsCut (has_key (pair_key account order))) old new)
takes_line account order old new result has rising h =
    deleted billing 6 account_lines refl (idle Billing 11) old new has rising pair_terms
    (has_key (pair_key account order)) (Text account ∷ Text order ∷ [])
    (λ x. key_test (pair_key account order) x (tt, (tt, tt))) refl delete_line
    delete_line_says result h
