-- Why the outbox doesn't take what an entity sends.
use Rattle.std.specs.Prelude.{Result, Ok, Err, ⊤}
use Rattle.keep.specs.declared.fault.KeepFault.TheVariants.{Failed, Memory, WrongFile}
use Rattle.keep.specs.Seen.{Cause, no_memory, failed, refused, End}
use Rattle.outbox.specs.declared.fault.OutboxFault.{OutboxFault}
use Rattle.outbox.specs.declared.fault.OutboxFault.TheVariants.{Store, NumberLimit}

-- the cause that a fault of the outbox tells
abbrev pub outbox_cause : OutboxFault → Cause OutboxFault
outbox_cause (Store Memory) = no_memory
outbox_cause (Store Failed) = failed
outbox_cause (Store WrongFile) = refused (Store WrongFile)
outbox_cause NumberLimit = refused NumberLimit

-- the end of a call of the outbox
abbrev pub outbox_end : {R : Type 0} → Result R OutboxFault → End R OutboxFault
outbox_end (Ok r) = Ok r
outbox_end (Err fault) = Err (outbox_cause fault)

-- of the reasons that a call of the outbox may have there is one: a number would be above the limit
abbrev pub IsLimit : OutboxFault → Type 0
IsLimit NumberLimit = ⊤
IsLimit (Store _) = ⊥
