-- What the three files of a folder hold, and are found to hold.
use Rattle.sqlite.specs.Files.{HoldsDatabase, IsNothing}
use Rattle.sqlite_trees.specs.Tree.{Trees}
use Rattle.sqlite_wal.specs.Recovery.{Image}
use Rattle.std.specs.Prelude.{◌≡◌, ◌⊎◌}
use Rattle.keep.specs.Seen.{Seen, IsSound}
use Rattle.keep.specs.Tables.{Tables, empty}
use Rattle.keep_sqlite.specs.Accounts.{accounts}
use Rattle.keep_sqlite.specs.Filing.{Filing}
use Rattle.keep_sqlite.specs.Found.{AreIn, IsFoundIn}
use Rattle.keep_sqlite.specs.Migration.{AreRenewed, FirstFiling, as_today, first_orders, first_tables_of}
use Rattle.keep_sqlite.specs.Orders.{orders}
use Rattle.keep_sqlite.specs.Stocks.{stocks}
use Rattle.laws_stores.specs.Sight.{AllTables}
use Rattle.schedule_io.specs.Opened.{IsOpened}

-- a store that was opened, as it's seen: while no file is in doubt this is so of its tables, and a stop leaves no others
pub record IsOpenedWith {T : Type 0} (Has : T → Type 0) (s : Seen T) : Type 0 where
  pub opened : IsOpened s
  pub sound : IsSound s
  pub found : s.doubt ≡ 0 → Has s.tables

-- these images are found to hold these tables
pub record AreFoundIn (purchasing warehouse billing : Image) (t : AllTables) : Type 0 where
  pub orders : IsFoundIn orders purchasing t.purchasing
  pub stocks : IsFoundIn stocks warehouse t.warehouse
  pub accounts : IsFoundIn accounts billing t.billing

-- an image is a database with these tables, or with none where they are empty
pub record IsDatabaseOf {S C : Type 0} (filing : Filing S C) (image : Image) (t : Tables S C) : Type 0 where
  pub db : Trees
  pub holds : HoldsDatabase image db
  pub tables : AreIn filing db t

-- an image holds these tables: in a database, or, where they are empty, it may hold nothing yet, as a new file
abbrev pub IsHeldIn : {S C : Type 0} → Filing S C → Image → Tables S C → Type 0
IsHeldIn filing image t = IsDatabaseOf filing image t ⊎ (IsNothing image × (t ≡ empty))

pub record AreHeldIn (purchasing warehouse billing : Image) (t : AllTables) : Type 0 where
  pub orders : IsHeldIn orders purchasing t.purchasing
  pub stocks : IsHeldIn stocks warehouse t.warehouse
  pub accounts : IsHeldIn accounts billing t.billing

-- an image holds what a file of version 1 became whose rows told these tables
pub record IsTakenOverIn {S C : Type 0} (first : FirstFiling S C) (filing : Filing S C) (image : Image)
    (t : Tables S C) : Type 0 where
  pub old : Trees
  pub told : first_tables_of first old ≡ t
  pub db : Trees
  pub renewed : AreRenewed first filing old db
  pub holds : HoldsDatabase image db

pub record AreTakenOverIn (purchasing warehouse billing : Image) (t : AllTables) : Type 0 where
  pub orders : IsTakenOverIn first_orders orders purchasing t.purchasing
  pub stocks : IsTakenOverIn (as_today stocks) stocks warehouse t.warehouse
  pub accounts : IsTakenOverIn (as_today accounts) accounts billing t.billing
