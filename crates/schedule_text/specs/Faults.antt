-- What reading a schedule answers.
use Rattle.std.specs.Prelude.{◌≡◌, List, ℕ, Result, Ok, Err}
use Rattle.std.specs.Global.{Vec}
use Rattle.schedule_text.specs.declared.fault.ScheduleFault.{ScheduleFault}
use Rattle.schedule_text.specs.declared.fault.ScheduleFault.TheVariants.{BadEvent, Memory}

-- the events that are to be read, or the number of the first faulty line; memory may have run out
abbrev pub IsRead : {E : Type 0} → Result (List E) ℕ → Result (Vec E) ScheduleFault → Type 0
IsRead expected (Ok events) = expected ≡ Ok events.items
IsRead expected (Err (BadEvent number)) = expected ≡ Err number
IsRead expected (Err Memory) = Unit {0}
