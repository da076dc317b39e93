-- Why the program ends with status 1.
use Rattle.std.specs.Prelude.{ℕ, List, codes, Result, Ok, Err}
use Rattle.std.specs.declared.io.ErrorKind.{ErrorKind}
use Rattle.std.specs.declared.io.ErrorKind.TheVariants.{OutOfMemory}
use Rattle.keep.specs.declared.fault.KeepFault.{KeepFault}
use Rattle.keep.specs.declared.fault.KeepFault.TheVariants.{Failed, Memory, WrongFile}
use Rattle.service_program.specs.declared.fault.RunFault.{RunFault}
use Rattle.service_program.specs.declared.fault.RunFault.TheVariants as run

-- what a fault means, in words
abbrev pub words_of : RunFault → List ℕ
words_of run.Unopened = codes "the file can't be opened, is damaged, or another program has it"
words_of run.FileMemory = codes "out of memory at the opening of the file"
words_of run.WrongFile = codes "the file is of another service or version, or no database"
words_of run.Device = codes "a stream or the system failed"
words_of run.Store = codes "the file can't be read or written, or a row of it is damaged"
words_of run.Memory = codes "out of memory"

-- why a file couldn't be opened, as it's told
abbrev pub fault_of_file : KeepFault → RunFault
fault_of_file Failed = run.Unopened
fault_of_file Memory = run.FileMemory
fault_of_file WrongFile = run.WrongFile

-- why a stream, or what threads wait with, failed, as it's told
abbrev pub fault_of_kind : ErrorKind → RunFault
fault_of_kind OutOfMemory = run.Memory
fault_of_kind _ = run.Device

-- the exit status of a service that ended so
abbrev pub status_of : {A : Type 0} → Result A RunFault → ℕ
status_of (Ok _) = 0
status_of (Err _) = 1
