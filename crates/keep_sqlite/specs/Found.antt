-- What is found where a store is opened.
use Rattle.std.specs.Prelude.{◌≡◌, ◌⊎◌, ℕ, pos, List, [], ◌∷◌}
use Rattle.sqlite.specs.declared.error.Error.{Error}
use Rattle.sqlite.specs.declared.error.Error.TheVariants.{SqliteFailure}
use Rattle.sqlite.specs.declared.error.ErrorCode.TheVariants.{OutOfMemory, NotADatabase}
use Rattle.sqlite.specs.declared.types.Value.TheVariants.{Int, Text}
use Rattle.sqlite.specs.Files.{HoldsDatabase, AreFoundIn}
use Rattle.sqlite.specs.State.{State}
use Rattle.sqlite_catalog.specs.Listing.{IsSound}
use Rattle.sqlite_trees.specs.Tree.{Trees}
use Rattle.sqlite_value.specs.Order.{Row, column}
use Rattle.sqlite_wal.specs.Recovery.{Image}
use Rattle.keep.specs.Tables.{Tables, empty}
use Rattle.keep.specs.declared.fault.KeepFault.{KeepFault}
use Rattle.keep.specs.declared.fault.KeepFault.TheVariants.{Failed, Memory, WrongFile}
use Rattle.sql_rows.specs.Schema.{name_of, about_tree, no_tables}
use Rattle.sql_rows.specs.declared.service.Service.{Service}
use Rattle.keep_sqlite.specs.Filing.{Filing}
use Rattle.keep_sqlite.specs.Tables.{tables_of}

-- the fault that an error at an opening is told as
abbrev pub opening_fault : Error → KeepFault
opening_fault (SqliteFailure OutOfMemory) = Memory
opening_fault (SqliteFailure NotADatabase) = WrongFile
opening_fault _ = Failed

-- the row of the table `about` that tells this version of a service
pub record IsAbout (version : ℕ) (service : Service) (r : Row) : Type 0 where
  pub version_is : column r 2 ≡ Int (pos version)
  pub name : column r 3 ≡ Text (name_of service)

-- there is one row, and it tells so
abbrev pub TellsVersion : ℕ → Service → List Row → Type 0
TellsVersion version service [] = ⊥
TellsVersion version service (r ∷ []) = IsAbout version service r
TellsVersion version service (_ ∷ _ ∷ _) = ⊥

abbrev pub TellsOf : Service → List Row → Type 0
TellsOf service rows = TellsVersion 2 service rows

module _ {S C : Type 0} (filing : Filing S C) where
  -- the table `about` of a service's file tells version 2 of it
  abbrev pub TellsOfService : Trees → Type 0
  TellsOfService db = TellsOf filing.is_service.service (db (about_tree filing.is_service.service))

  -- a connection's tables are taken over as these: the service's, as its last commit left them; where it has none, they
  -- are made anew
  abbrev pub IsTakenOver : State → Tables S C → Type 0
  IsTakenOver s t = (IsSound filing.schema s.committed.trees × (t ≡ tables_of filing s.committed.trees)
      × TellsOfService s.committed.trees)
      ⊎ ((s.now.schema ≡ no_tables) × (t ≡ empty))

  -- the tables in a database, or none where it has no tables yet
  abbrev pub AreIn : Trees → Tables S C → Type 0
  AreIn db t = (IsSound filing.schema db × (t ≡ tables_of filing db) × TellsOfService db)
      ⊎ (IsSound no_tables db × (t ≡ empty))

  -- what files held is opened as these tables
  pub record IsFoundIn (image : Image) (t : Tables S C) : Type 0 where
    pub db : Trees
    -- it is the database that they held, and no other; where they held none, an empty one
    pub holds : (other : Trees) → HoldsDatabase image other → db ≡ other
    pub reads : AreFoundIn image db
    pub tables : AreIn db t
