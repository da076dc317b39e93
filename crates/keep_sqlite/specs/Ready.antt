-- What a store knows of its connection.
use Rattle.std.specs.Prelude.{◌≡◌, ℕ, ℤ, ◌+◌, pos, Option, Some, None, IsTrue, List, [], ◌∷◌, length, Bool, true}
use Rattle.std.specs.Prelude.{false, Result, Ok, Err, ◌⊎◌, ⊤}
use Rattle.std.specs.List.{AllByRecursion}
use Rattle.sqlite.specs.declared.types.Value.TheVariants.{Int}
use Rattle.sqlite_value.specs.Order.{Row, column}
use Rattle.sqlite_trees.specs.Tree.{Trees, rowid}
use Rattle.sqlite.specs.Effect.{Database, IsDatabase}
use Rattle.sqlite.specs.State.{State, Shows}
use Rattle.sqlite_schema.specs.declared.schema.Schema.{Schema}
use Rattle.sqlite_schema.specs.declared.schema.Table.{Table}
use Rattle.sqlite.specs.declared.error.Error.{Error}
use Rattle.sqlite.specs.declared.error.Error.TheVariants.{SqliteFailure}
use Rattle.sqlite.specs.declared.error.ErrorCode.TheVariants.{OutOfMemory}
use Rattle.envelope.specs.declared.message.Message.{Message}
use Rattle.keep.specs.Law.{MoreFailures}
use Rattle.keep.specs.declared.fault.KeepFault.{KeepFault}
use Rattle.keep.specs.declared.fault.KeepFault.TheVariants.{Failed, Memory}
use Rattle.keep.specs.declared.change.Change.{Change}
use Rattle.keep.specs.Tables.{Tables, changed}
use Rattle.sql_rows.specs.Tables.{IsRising}
use Rattle.keep_sqlite.specs.Filing.{Filing}
use Rattle.keep_sqlite.specs.Tables.{tables_of, message_in}

-- the rowids of each table rise
abbrev pub AreRising : Schema → Trees → Type 0
AreRising schema db = AllByRecursion (λ (t : Table). IsRising (db t.tree)) schema.tables

-- the positions of these rows are this one and those behind it, one by one
abbrev pub AreNumbered : ℕ → List Row → Type 0
AreNumbered n [] = ⊤
AreNumbered n (r ∷ rs) = (rowid r ≡ Int (pos n)) × AreNumbered (n + 1) rs

-- a file of this schema, whose journal has so many rows, at 1, 2, ..
pub record IsFiled (schema : Schema) (count : ℕ) (db : Database) : Type 0 where
  pub is : db.schema ≡ schema
  pub rising : AreRising schema db.trees
  pub counted : count ≡ length (db.trees 0)
  pub numbered : AreNumbered 1 (db.trees 0)

-- the connection waits for a transaction over such a file
pub record IsReady (schema : Schema) (count : ℕ) (s : State) : Type 0 where
  pub is_open : IsTrue s.is_open
  pub settled : s.now ≡ s.committed
  pub filed : IsFiled schema count s.now

module _ {S C : Type 0} (filing : Filing S C) where
  -- inside a transaction the tables are changed so, and the journal has so many rows then
  pub record Makes (change : Tables S C → Tables S C) (count : ℕ) (old new : State) : Type 0 where
    pub tables : tables_of filing new.now.trees ≡ change (tables_of filing old.now.trees)
    pub filed : IsFiled filing.schema count new.now
    pub sound : IsDatabase new.now
    pub shown : Shows old new new.now old.committed true

  -- some changes are made, and these are left of all
  pub record IsUnderWay (rest all : List (Change S C)) (count : ℕ) (old now : State) : Type 0 where
    pub left : changed rest (tables_of filing now.now.trees) ≡ changed all (tables_of filing old.now.trees)
    pub filed : IsFiled filing.schema count now.now
    pub sound : IsDatabase now.now
    pub shown : Shows old now now.now old.committed true

-- how a call ends whose statements did this: as they did, or, where they were refused, for want of memory, or else it
-- has failed, which is counted
abbrev pub IsEnd : {R : Type 0} → Result R Error → Result R KeepFault → Bool → ℕ → ℕ → Type 0
IsEnd (Ok r) result usable before after = (result ≡ Ok r) × (usable ≡ true) × (after ≡ before)
IsEnd (Err x) result usable before after =
    ((result ≡ Err Memory) × (usable ≡ true) × (after ≡ before) × (x ≡ SqliteFailure OutOfMemory))
    ⊎ ((result ≡ Err Failed) × (usable ≡ false) × MoreFailures before after)

-- this is the number that an answer has in a column of its first row, or 0
abbrev pub IsFirstMark : ℕ → List Row → ℕ → Type 0
IsFirstMark at [] n = n ≡ 0
IsFirstMark at (r ∷ rs) n = column r at ≡ Int (pos n)

-- this is the value that an answer has in a column of its first row, or 0
abbrev pub IsFirstCell : ℕ → List Row → ℤ → Type 0
IsFirstCell at [] z = z ≡ pos 0
IsFirstCell at (r ∷ rs) z = column r at ≡ Int z

-- this is the message whose body is the first value of an answer, if there is one
abbrev pub IsFirstMessage : List Row → Option Message → Type 0
IsFirstMessage [] m = m ≡ None
IsFirstMessage (r ∷ rs) m = m ≡ Some (message_in (column r 0))
