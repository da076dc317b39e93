-- The tables of version 1, and what becomes of them.
use Rattle.std.specs.Prelude.{◌≡◌, true, [], ◌∷◌, ◌++◌, codes, if◌then◌else◌, List, map, ℕ, ℤ, pos}
use Rattle.std.specs.List.{AllByRecursion}
use Rattle.sqlite.specs.Effect.{IsDatabase}
use Rattle.sqlite.specs.Schema.{Schema}
use Rattle.sqlite.specs.State.{State, Shows}
use Rattle.sqlite.specs.Table.{Table}
use Rattle.sqlite.specs.declared.types.Value.TheVariants.{Null, Int, Text as TextValue}
use Rattle.sqlite_catalog.specs.Change.{KeepsRows}
use Rattle.sqlite_catalog.specs.Listing.{automatic}
use Rattle.sqlite_trees.specs.Tree.{has_rowid}
use Rattle.sqlite_value.specs.Order.{Row, column}
use Rattle.sql_rows.specs.Schema.{about, common_indexes, common_tables, int, keyed, name_of, purchasing, schema_of}
use Rattle.sql_rows.specs.Schema.{schema_with, text}
use Rattle.sql_rows.specs.declared.service.Service.{Service}
use Rattle.sql_rows.specs.declared.service.Service.TheVariants.{Purchasing, Warehouse, Billing}

-- ---- the tables of version 1

-- an order, which had one line
abbrev pub orders : Table
orders = keyed (codes "orders") 9 (1 ∷ []) []
    (text (codes "key") ∷ text (codes "stock") ∷ int (codes "n") ∷ text (codes "account") ∷ int (codes "amount")
    ∷ text (codes "status") ∷ text (codes "stock_phase") ∷ text (codes "account_phase") ∷ []) [] []

abbrev pub first_purchasing : Schema
first_purchasing = record {
  tables = common_tables ++ orders ∷ about 11 ∷ [];
  indexes = common_indexes ++ automatic orders 0 (1 ∷ []) 10 ∷ [];
  views = [];
}

-- the other two services had the tables that they have
abbrev pub first_schema_of : Service → Schema
first_schema_of Purchasing = first_purchasing
first_schema_of Warehouse = schema_of Warehouse
first_schema_of Billing = schema_of Billing

abbrev pub first_about_tree : Service → ℕ
first_about_tree Purchasing = 11
first_about_tree Warehouse = 13
first_about_tree Billing = 13

-- ---- those of version 2 in their place

-- A transaction changes which tables there are: these are kept, with their rows, and these behind them are new, with
-- none; the schema is what making them all in this order gives.
pub record Rebuilds (kept made : List Table) (old new : State) : Type 0 where
  pub schema : new.now.schema ≡ schema_with (kept ++ made)
  pub same_rows : KeepsRows kept old.now.trees new.now.trees
  pub empty : AllByRecursion (λ t. new.now.trees t.tree ≡ []) made
  pub sound : IsDatabase new.now
  pub shown : Shows old new new.now old.committed true

-- the row that tells whose tables they are, in version 2
abbrev pub about_row : Service → Row
about_row service = Int (pos 1) ∷ Null ∷ Int (pos 2) ∷ TextValue (name_of service) ∷ []

-- the tables of purchasing stand in place of those of version 1, with no order; what the others have is as it was
pub record IsReplaced (old new : State) : Type 0 where
  pub schema : new.now.schema ≡ purchasing
  pub common : KeepsRows common_tables old.now.trees new.now.trees
  pub heads : new.now.trees 9 ≡ []
  pub lines : new.now.trees 11 ≡ []
  pub about : new.now.trees 14 ≡ about_row Purchasing ∷ []
  pub sound : IsDatabase new.now
  pub shown : Shows old new new.now old.committed true

-- ---- rows that are written anew

-- that row alone tells whose tables they are
abbrev pub IsTold : Service → List Row → List Row → Type 0
IsTold service rows after = after ≡ about_row service ∷ []

-- a row of the journal, with another body
abbrev pub with_body : List ℕ → Row → Row
with_body body r =
    column r 0 ∷ Null ∷ column r 2 ∷ column r 3 ∷ column r 4 ∷ column r 5 ∷ TextValue body ∷ []

-- the row at that position has another body
abbrev pub rebodied : ℤ → List ℕ → Row → Row
rebodied position body r = if has_rowid position r then with_body body r else r

abbrev pub Rebodies : ℤ → List ℕ → List Row → List Row → Type 0
Rebodies position body rows after = after ≡ map (rebodied position body) rows
