-- The numbers of a SEND that isn't repeated.
use Rattle.std.specs.Prelude.{ℕ}
use Rattle.schedule_mail.specs.declared.repeat_fault.RepeatFault.{RepeatFault}
use Rattle.schedule_mail.specs.declared.repeat_fault.RepeatFault.TheVariants.{QueueFull, Memory, TooMany}

-- the number of a SEND that isn't repeated
abbrev pub repeat_fault_number : RepeatFault → ℕ
repeat_fault_number QueueFull = 32
repeat_fault_number Memory = 34
repeat_fault_number TooMany = 36
