-- What is told where the files of a folder are taken over.
use Rattle.std.specs.Global.{Vec}
use Rattle.std.specs.Io.KnownBytes.{Appends}
use Rattle.std.specs.Prelude.{◌≡◌, ◌⊎◌, ℕ, List, [], ◌++◌, codes, if◌then◌else◌, nat_eq, Option, Result, Ok, Err}
use Rattle.keep_sqlite.specs.declared.migration.Migrated.{Migrated}
use Rattle.schedule_io.specs.Ends.{IsReadFrom}
use Rattle.schedule_io.specs.declared.fault.RunFault.{RunFault}
use Rattle.schedule_io.specs.declared.fault.RunFault.TheVariants.{BadEvent, Memory, Device, Unopened}
use Rattle.schedule_io.specs.declared.fault.StoresFault.TheVariants.{Purchasing, Warehouse, Billing}
use Rattle.schedule_text.specs.declared.event.Event.{Event}
use Rattle.streams.specs.Written.{AppendsPart}

-- which versions the three files had
pub record Versions : Type 0 where
  pub purchasing : Migrated
  pub warehouse : Migrated
  pub billing : Migrated

-- a file's line, where it was of version 1
abbrev pub line_of : List ℕ → Migrated → List ℕ
line_of line m = if nat_eq m.from 1 then line else []

abbrev pub first_line : Versions → List ℕ
first_line v = line_of (codes "migrated purchasing 1 2\n") v.purchasing

abbrev pub two_lines : Versions → List ℕ
two_lines v = first_line v ++ line_of (codes "migrated warehouse 1 2\n") v.warehouse

abbrev pub all_lines : Versions → List ℕ
all_lines v = two_lines v ++ line_of (codes "migrated billing 1 2\n") v.billing

-- how taking the three over ends: each file that was of version 1 is told by a line, up to the one that can't be taken
-- over, or to where the writer fails
abbrev pub IsTakenOverWith : Option (List ℕ) → Option (List ℕ) → Result Unit RunFault → Type 0
IsTakenOverWith old new (Ok _) = (v : Versions) × Appends old new (all_lines v)
IsTakenOverWith old new (Err (Unopened (Purchasing fault))) = Appends old new []
IsTakenOverWith old new (Err (Unopened (Warehouse fault))) = (v : Versions) × Appends old new (first_line v)
IsTakenOverWith old new (Err (Unopened (Billing fault))) = (v : Versions) × Appends old new (two_lines v)
IsTakenOverWith old new (Err Device) = (v : Versions) × AppendsPart old new (all_lines v)
IsTakenOverWith old new (Err (BadEvent number)) = ⊥
IsTakenOverWith old new (Err Memory) = ⊥

-- how it ends where a schedule is read before: with its events behind the lines of all three; or none was read, and nothing
-- is told; or the schedule was read, and a file can't be taken over or the writer fails
abbrev pub IsReadAndTakenOver : Option (List ℕ) → Option (List ℕ) → Option (List ℕ) → Result (Vec Event) RunFault → Type 0
IsReadAndTakenOver input old new (Ok events) = IsReadFrom input (Ok events) × IsTakenOverWith old new (Ok tt)
IsReadAndTakenOver input old new (Err fault) = (IsReadFrom input (Err fault) × (new ≡ old))
    ⊎ ((events : Vec Event) × IsReadFrom input (Ok events) × IsTakenOverWith old new (Err fault))
