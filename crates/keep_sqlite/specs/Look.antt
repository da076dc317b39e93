-- What a look at a connection tells, by a text that is no statement.
use Rattle.std.specs.Prelude.{◌≡◌, ◌⊎◌, false, Result, Ok, Err}
use Rattle.sqlite_disk.specs.Disk.{MoreFaults}
use Rattle.sqlite.specs.State.{State}
use Rattle.sqlite.specs.declared.error.Error.{Error}
use Rattle.sqlite.specs.declared.error.Error.TheVariants.{SqliteFailure}
use Rattle.sqlite.specs.declared.error.ErrorCode.TheVariants as code
use Rattle.keep.specs.declared.fault.KeepFault.{KeepFault}
use Rattle.keep.specs.declared.fault.KeepFault.TheVariants.{Failed, Memory}

-- want of memory tells nothing, and what else a store may fail by tells that it's shut or was; any other end tells that
-- the connection is open
abbrev pub look_end : {X : Type 0} → Result X Error → Result Unit KeepFault
look_end (Err (SqliteFailure code.OutOfMemory)) = Err Memory
look_end (Err (SqliteFailure code.Closed)) = Err Failed
look_end (Err (SqliteFailure code.SystemIoFailure)) = Err Failed
look_end (Err (SqliteFailure code.DatabaseCorrupt)) = Err Failed
look_end (Err (SqliteFailure code.DiskFull)) = Err Failed
look_end _ = Ok tt

-- the connection was shut, or the disk failed since
abbrev pub IsShut : State → State → Type 0
IsShut old new = (old.is_open ≡ false) ⊎ MoreFaults old.faults new.faults
