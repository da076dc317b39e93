-- The tables of the three services.
use Rattle.sqlite.specs.Collation.TheVariants.{Binary}
use Rattle.std.specs.Prelude.{◌≡◌, true, false, [], ◌∷◌, ◌++◌, Some, None, codes, fold, List, map, Option, ℕ, pos}
use Rattle.std.specs.List.{AllByRecursion}
use Rattle.sqlite.specs.Effect.{Database, IsDatabase}
use Rattle.sqlite.specs.State.{State, HasCleanDisk, KeepsCommit, Shows, Survives}
use Rattle.sqlite_catalog.specs.Change.{created}
use Rattle.sqlite.specs.declared.types.Value.TheVariants.{Null, Int, Text as TextValue}
use Rattle.sqlite.specs.Table.{Table}
use Rattle.sqlite.specs.Schema.{Schema}
use Rattle.sqlite.specs.Kind.TheVariants.{Integer, Text}
use Rattle.sqlite_schema.specs.declared.schema.Column.{Column}
use Rattle.sqlite_schema.specs.declared.schema.Index.{Index}
use Rattle.sqlite_schema.specs.declared.schema.Reference.{Reference}
use Rattle.sqlite_schema.specs.declared.schema.Action.TheVariants.{NoAction}
use Rattle.sqlite_value.specs.declared.keys.Order.{Order}
use Rattle.sqlite_value.specs.Keys.{plain}
use Rattle.sqlite_sql.specs.Term.{Term, lit, col, op2}
use Rattle.sqlite_catalog.specs.Listing.{automatic}
use Rattle.sqlite_sql.specs.declared.ops.BinaryOp.TheVariants.{Compare, And}
use Rattle.sqlite_sql.specs.declared.ops.CompareOp.TheVariants.{Eq, Le, Ge}
use Rattle.sql_rows.specs.declared.service.Service.{Service}
use Rattle.sql_rows.specs.declared.service.Service.TheVariants.{Purchasing, Warehouse, Billing}

-- ---- columns and tables

abbrev pub int : List ℕ → Column
int name = record {
  name = name;
  kind = Integer;
  is_strict = true;
  not_null = true;
  default = Null;
  collation = Binary;
}

abbrev pub text : List ℕ → Column
text name = record { name = name; kind = Text; is_strict = true; not_null = true; default = Null; collation = Binary }

abbrev pub or_null : Column → Column
or_null c = record c { not_null = false }

-- no column is computed or reads the time, and no rowid is counted
abbrev pub table_of : List ℕ → ℕ → List Column → Option ℕ → List ℕ → List (List ℕ) → List Order → List Term
    → List Reference → Table
table_of name tree columns key primary uniques orders checks references = record {
  name = name;
  tree = tree;
  columns = columns;
  key = key;
  primary = primary;
  uniques = uniques;
  orders = orders;
  checks = checks;
  references = references;
  computed = [];
  stamps = record { places = []; terms = []; formats = [] };
  is_counted = false;
}

-- a table whose rowid is its first column
abbrev pub numbered : List ℕ → ℕ → List Column → List Term → Table
numbered name tree columns checks = table_of name tree columns (Some 0) (0 ∷ []) [] [] checks []

-- a table with a key of its own, and perhaps a second one
abbrev pub keyed : List ℕ → ℕ → List ℕ → List (List ℕ) → List Column → List Term → List Reference → Table
keyed name tree key seconds columns checks references = table_of name tree columns None key (key ∷ seconds)
    (map (λ _. plain) (key ∷ seconds)) checks references

-- the column refers to the key of that table
abbrev pub refers_to : List ℕ → Reference
refers_to parent = record {
  columns = 1 ∷ [];
  parent = parent;
  parent_columns = codes "key" ∷ [];
  on_delete = NoAction;
  on_update = NoAction;
  is_deferred = false;
}

abbrev pub between : ℕ → ℕ → Term → Term
between low high t =
    op2 And (op2 (Compare Ge Binary) t (lit (Int (pos low)))) (op2 (Compare Le Binary) t (lit (Int (pos high))))

-- ---- the tables of every service

-- what its entities took in: a command from a seat, or a message from a sender with a number
abbrev pub journal : Table
journal = numbered (codes "journal") 0
    (or_null (int (codes "pos")) ∷ text (codes "entity") ∷ or_null (int (codes "seat"))
    ∷ or_null (text (codes "sender")) ∷ or_null (int (codes "number")) ∷ text (codes "body") ∷ []) []

abbrev pub letter_columns : List Column
letter_columns = text (codes "sender") ∷ text (codes "receiver") ∷ int (codes "number") ∷ text (codes "body") ∷ []

-- the letters that were sent and aren't settled
abbrev pub outbox : Table
outbox = keyed (codes "outbox") 1 (1 ∷ 2 ∷ 3 ∷ []) [] letter_columns [] []

-- the last numbers sent and settled of a pair
abbrev pub out_marks : Table
out_marks = keyed (codes "out_marks") 3 (1 ∷ 2 ∷ []) []
    (text (codes "sender") ∷ text (codes "receiver") ∷ int (codes "sent") ∷ int (codes "settled") ∷ [])
    (op2 (Compare Le Binary) (col 1 4) (col 1 3) ∷ []) []

-- the last number handled of a pair: 0, or a letter's, which is 2^40 at most
abbrev pub in_marks : Table
in_marks = keyed (codes "in_marks") 5 (1 ∷ 2 ∷ []) []
    (text (codes "sender") ∷ text (codes "receiver") ∷ int (codes "handled") ∷ [])
    (between 0 1099511627776 (col 1 3) ∷ []) []

-- the letters that came too early
abbrev pub held : Table
held = keyed (codes "held") 7 (1 ∷ 2 ∷ 3 ∷ []) [] letter_columns [] []

-- which service's file it is, and in which version
abbrev pub about : ℕ → Table
about tree = numbered (codes "about") tree
    (or_null (int (codes "one")) ∷ int (codes "version") ∷ text (codes "service") ∷ [])
    (op2 (Compare Eq Binary) (col 1 0) (lit (Int (pos 1))) ∷ [])

-- ---- those of purchasing

-- an order but for its lines
abbrev pub order_heads : Table
order_heads = keyed (codes "order_heads") 9 (1 ∷ []) []
    (text (codes "key") ∷ text (codes "account") ∷ int (codes "amount")
    ∷ text (codes "status") ∷ text (codes "account_phase") ∷ []) [] []

-- one to eight lines of an order, and no two at one stock
abbrev pub order_lines : Table
order_lines = keyed (codes "order_lines") 11 (1 ∷ 2 ∷ []) ((1 ∷ 3 ∷ []) ∷ [])
    (text (codes "order_key") ∷ int (codes "line") ∷ text (codes "stock")
    ∷ int (codes "n") ∷ text (codes "phase") ∷ [])
    (between 1 8 (col 1 2) ∷ []) (refers_to (codes "order_heads") ∷ [])

-- ---- those of a warehouse

-- the numbers of a stock
abbrev pub stocks : Table
stocks = keyed (codes "stocks") 9 (1 ∷ []) []
    (text (codes "key") ∷ int (codes "on_hand") ∷ int (codes "held")
    ∷ int (codes "shipped") ∷ int (codes "received") ∷ []) [] []

-- what an order has of a stock
abbrev pub stock_lines : Table
stock_lines = keyed (codes "stock_lines") 11 (1 ∷ 2 ∷ []) []
    (text (codes "stock") ∷ text (codes "order_key") ∷ int (codes "n") ∷ text (codes "phase") ∷ []) []
    (refers_to (codes "stocks") ∷ [])

-- ---- those of billing

-- the numbers of an account
abbrev pub accounts : Table
accounts = keyed (codes "accounts") 9 (1 ∷ []) []
    (text (codes "key") ∷ int (codes "limit_now") ∷ int (codes "billed") ∷ int (codes "held") ∷ []) [] []

-- what an order has of an account
abbrev pub account_lines : Table
account_lines = keyed (codes "account_lines") 11 (1 ∷ 2 ∷ []) []
    (text (codes "account") ∷ text (codes "order_key") ∷ int (codes "n") ∷ text (codes "phase") ∷ []) []
    (refers_to (codes "accounts") ∷ [])

-- ---- the schemas, each table in the order in which it is made

abbrev pub common_tables : List Table
common_tables = journal ∷ outbox ∷ out_marks ∷ in_marks ∷ held ∷ []

abbrev pub common_indexes : List Index
common_indexes = automatic outbox 0 (1 ∷ 2 ∷ 3 ∷ []) 2 ∷ automatic out_marks 0 (1 ∷ 2 ∷ []) 4
    ∷ automatic in_marks 0 (1 ∷ 2 ∷ []) 6 ∷ automatic held 0 (1 ∷ 2 ∷ 3 ∷ []) 8 ∷ []

abbrev pub purchasing : Schema
purchasing = record {
  tables = common_tables ++ order_heads ∷ order_lines ∷ about 14 ∷ [];
  indexes = common_indexes ++ automatic order_heads 0 (1 ∷ []) 10
      ∷ automatic order_lines 0 (1 ∷ 2 ∷ []) 12 ∷ automatic order_lines 1 (1 ∷ 3 ∷ []) 13 ∷ [];
  views = [];
}

abbrev pub warehouse : Schema
warehouse = record {
  tables = common_tables ++ stocks ∷ stock_lines ∷ about 13 ∷ [];
  indexes = common_indexes ++ automatic stocks 0 (1 ∷ []) 10 ∷ automatic stock_lines 0 (1 ∷ 2 ∷ []) 12 ∷ [];
  views = [];
}

abbrev pub billing : Schema
billing = record {
  tables = common_tables ++ accounts ∷ account_lines ∷ about 13 ∷ [];
  indexes = common_indexes ++ automatic accounts 0 (1 ∷ []) 10 ∷ automatic account_lines 0 (1 ∷ 2 ∷ []) 12 ∷ [];
  views = [];
}

abbrev pub schema_of : Service → Schema
schema_of Purchasing = purchasing
schema_of Warehouse = warehouse
schema_of Billing = billing

-- the tables of some service
pub record IsService (schema : Schema) : Type 0 where
  pub service : Service
  pub is : schema ≡ schema_of service

-- ---- how they are made

abbrev pub no_tables : Schema
no_tables = record { tables = []; indexes = []; views = [] }

-- the schema where these tables were made, in this order
abbrev pub schema_with : List Table → Schema
schema_with = fold created no_tables

-- these tables were made, in this order, and have no rows
pub record AreMade (tables : List Table) (db : Database) : Type 0 where
  pub schema : db.schema ≡ schema_with tables
  pub empty : AllByRecursion (λ t. db.trees t.tree ≡ []) (schema_with tables).tables

-- these tables are made in a transaction, and nothing else is
pub record Makes (tables : List Table) (old new : State) : Type 0 where
  pub made : AreMade tables new.now
  pub sound : IsDatabase new.now
  pub shown : Shows old new new.now old.committed true

-- a transaction goes on, and commits nothing
pub record IsUnderWay (old new : State) : Type 0 where
  pub kept : HasCleanDisk new → KeepsCommit old new
  pub survives : Survives old new (λ _. ⊥)

-- as the table `about` has it
abbrev pub name_of : Service → List ℕ
name_of Purchasing = codes "purchasing"
name_of Warehouse = codes "warehouse"
name_of Billing = codes "billing"

abbrev pub own_tables : Service → List Table
own_tables Purchasing = order_heads ∷ order_lines ∷ []
own_tables Warehouse = stocks ∷ stock_lines ∷ []
own_tables Billing = accounts ∷ account_lines ∷ []

abbrev pub about_tree : Service → ℕ
about_tree Purchasing = 14
about_tree Warehouse = 13
about_tree Billing = 13

abbrev pub tables_of : Service → List Table
tables_of service = (common_tables ++ own_tables service) ++ about (about_tree service) ∷ []

-- the tables of a service, with no rows but the one that tells whose they are, in version 2
pub record IsNew (service : Service) (db : Database) : Type 0 where
  pub schema : db.schema ≡ schema_of service
  pub empty : AllByRecursion (λ t. db.trees t.tree ≡ []) (common_tables ++ own_tables service)
  pub about : db.trees (about_tree service)
      ≡ (Int (pos 1) ∷ Null ∷ Int (pos 2) ∷ TextValue (name_of service) ∷ []) ∷ []
  pub sound : IsDatabase db

-- a transaction makes them, and nothing else
pub record Founds (service : Service) (old new : State) : Type 0 where
  pub is_new : IsNew service new.now
  pub shown : Shows old new new.now old.committed true
