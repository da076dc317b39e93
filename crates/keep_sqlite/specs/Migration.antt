-- What files of version 1 hold, and what becomes of it.
use Rattle.std.specs.Prelude.{◌≡◌, ◌≢◌, ◌⊎◌, ℕ, true, List, map, find, Option, Some, None, IsTrue, Result, Ok, Err}
use Rattle.std.specs.Prelude.{⊤}
use Rattle.std.specs.List.{AllByRecursion}
use Rattle.sqlite.specs.declared.error.Error.{Error}
use Rattle.sqlite.specs.Effect.{Database, IsDatabase}
use Rattle.sqlite.specs.State.{State, Shows}
use Rattle.sqlite_catalog.specs.Listing.{IsSound}
use Rattle.sqlite_schema.specs.declared.schema.Table.{Table}
use Rattle.sqlite_trees.specs.Tree.{Trees}
use Rattle.sqlite_value.specs.Order.{Row, column}
use Rattle.base.specs.Entity.{Entity}
use Rattle.base.specs.declared.entity.Kind.{Kind}
use Rattle.base.specs.declared.entity.Kind.TheVariants as kind
use Rattle.activities.specs.declared.input.JournalRow.{JournalRow}
use Rattle.keep.specs.Tables.{Tables}
use Rattle.sql_rows.specs.FirstVersion.{first_schema_of, first_about_tree}
use Rattle.sql_rows.specs.Schema.{no_tables, purchasing}
use Rattle.sql_rows.specs.Tables.{has_key, text_key}
use Rattle.sql_rows.specs.declared.service.Service.{Service}
use Rattle.sql_bodies.specs.FirstVersion.{read_first_order_command}
use Rattle.trade.specs.Orders.{OrderState}
use Rattle.trade.specs.declared.commands.OrderCommand.{OrderCommand}
use Rattle.keep_sqlite.specs.declared.migration.Migrated.{Migrated}
use Rattle.keep_sqlite.specs.Filing.{Filing}
use Rattle.keep_sqlite.specs.FirstVersion.{first_order_told}
use Rattle.keep_sqlite.specs.Found.{TellsOfService, TellsVersion}
use Rattle.keep_sqlite.specs.Orders.{orders, placed}
use Rattle.keep_sqlite.specs.Ready.{AreRising, IsFiled}
use Rattle.keep_sqlite.specs.Tables.{tables_of, entity_in, input_of, marks_in, messages_in, row_in}

-- how a service's rows stood in version 1: which state they have of an entity, and the command whose body a text is
pub record FirstFiling (S C : Type 0) : Type 0 where
  pub entity : Trees → Entity → Option S
  pub command : List ℕ → Option C

-- as today
abbrev pub as_today : {S C : Type 0} → Filing S C → FirstFiling S C
as_today filing = record { entity = filing.entity; command = filing.command }

-- the table `about` tells version 1 of this service
abbrev pub TellsOfFirst : Service → List Row → Type 0
TellsOfFirst service rows = TellsVersion 1 service rows

-- a file of version 1
pub record IsFirst (service : Service) (db : Database) : Type 0 where
  pub is : db.schema ≡ first_schema_of service
  pub rising : AreRising (first_schema_of service) db.trees

module _ {S C : Type 0} (first : FirstFiling S C) where
  -- a row of the journal, by what version 1 kept of commands
  abbrev pub first_row_in : Row → JournalRow C
  first_row_in r = record {
    entity = entity_in (column r 2);
    input = input_of first.command (column r 3) (column r 4) (column r 5) (column r 6);
  }

  -- the tables in a file of version 1: all but the states and the journal's commands stands as it does today
  abbrev pub first_tables_of : Trees → Tables S C
  first_tables_of db = record {
    journal = map first_row_in (db 0);
    entity = first.entity db;
    unsettled = messages_in (db 1);
    sent = marks_in 3 (db 3);
    settled = marks_in 4 (db 3);
    handled = marks_in 3 (db 5);
    held = messages_in (db 7);
  }

module _ {S C : Type 0} (first : FirstFiling S C) (filing : Filing S C) where
  -- these rows, of a file of today, are the tables that those were, of a file of version 1
  pub record AreRenewed (old new : Trees) : Type 0 where
    pub tables : tables_of filing new ≡ first_tables_of first old
    pub about : TellsOfService filing new
    pub sound : IsSound filing.schema new

  -- a transaction makes them so
  pub record Renews (old new : State) : Type 0 where
    pub schema : new.now.schema ≡ filing.schema
    pub tables : tables_of filing new.now.trees ≡ first_tables_of first old.now.trees
    pub about : TellsOfService filing new.now.trees
    pub sound : IsDatabase new.now
    pub shown : Shows old new new.now old.committed true

-- ---- orders

-- the order that a row of version 1 tells: it has one stock
abbrev pub first_order_in : Option Row → Option OrderState
first_order_in None = None
first_order_in (Some r) = first_order_told (column r 2) (column r 3) (column r 4) (column r 5) (column r 6) (column r 7)
    (column r 8)

-- the order of an entity, by the rows; only orders have one
abbrev pub first_order_at : Kind → List ℕ → List Row → Option OrderState
first_order_at kind.Order key rows = first_order_in (find (has_key (text_key key)) rows)
first_order_at kind.Stock key rows = None
first_order_at kind.Account key rows = None

abbrev pub first_orders : FirstFiling (Option OrderState) OrderCommand
first_orders = record {
  entity = λ db e. placed (first_order_at e.kind e.key (db 9));
  command = read_first_order_command;
}

-- in a transaction the journal is written as today's, with so many rows, and all other tables stay
pub record RenewsJournal (count : ℕ) (old new : State) : Type 0 where
  pub journal : map (row_in orders) (new.now.trees 0) ≡ map (first_row_in first_orders) (old.now.trees 0)
  pub others : AllByRecursion (λ (t : Table). t.tree ≢ 0 → new.now.trees t.tree ≡ old.now.trees t.tree) purchasing.tables
  pub filed : IsFiled purchasing count new.now
  pub sound : IsDatabase new.now
  pub shown : Shows old new new.now old.committed true

-- ---- a file that is taken over

-- a connection waits over a file of version 1 of this service
pub record IsFirstFile (service : Service) (s : State) : Type 0 where
  pub is_open : IsTrue s.is_open
  pub settled : s.now ≡ s.committed
  pub first : IsFirst service s.now
  pub tells : TellsOfFirst service (s.now.trees (first_about_tree service))

-- from version 1 to 2, or from 2 to 2
abbrev pub IsVersions : Migrated → Type 0
IsVersions m = ((m.from ≡ 1) ⊎ (m.from ≡ 2)) × (m.to ≡ 2)

-- from version 2 to 2
abbrev pub as_it_is : Migrated
as_it_is = record { from = 2; to = 2 }

-- a database of version 2 of this service, or one without tables
abbrev pub IsOfToday : {S C : Type 0} → Filing S C → Database → Type 0
IsOfToday filing db = ((db.schema ≡ filing.schema) × TellsOfService filing db.trees) ⊎ (db.schema ≡ no_tables)

-- what was committed was a file of version 1 and is one of version 2 with the same tables; or it was one of version 2, or
-- had no tables, and is as it was
abbrev pub IsMigrated : {S C : Type 0} → FirstFiling S C → Filing S C → Migrated → State → State → Type 0
IsMigrated first filing m old new =
    ((m ≡ record { from = 1; to = 2 })
    × TellsOfFirst filing.is_service.service (old.committed.trees (first_about_tree filing.is_service.service))
    × AreRenewed first filing old.committed.trees new.committed.trees)
    ⊎ ((m ≡ as_it_is) × (new.committed ≡ old.committed) × IsOfToday filing new.committed)

-- where nothing was taken over, what was committed stays
abbrev pub IsRefused : Result (Option Migrated) Error → State → State → Type 0
IsRefused (Ok (Some m)) old new = ⊤
IsRefused (Ok None) old new = new.committed ≡ old.committed
IsRefused (Err e) old new = new.committed ≡ old.committed
