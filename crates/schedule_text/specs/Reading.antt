-- What reading answers.
use Rattle.std.specs.Prelude.{◌≡◌, Option, Some, None, Result, Ok, Err}
use Rattle.schedule_text.specs.declared.fault.LineFault.{LineFault}
use Rattle.schedule_text.specs.declared.fault.LineFault.TheVariants.{Bad, Memory}

-- it's bad where nothing is expected; memory may have run out
abbrev pub MayFail : {Y : Type 0} → LineFault → Option Y → Type 0
MayFail Bad expected = expected ≡ None
MayFail Memory expected = Unit {0}

-- what was read, seen by view, is what is expected
abbrev pub Reads : {X Y : Type 0} → (X → Y) → Result X LineFault → Option Y → Type 0
Reads view (Ok x) expected = expected ≡ Some (view x)
Reads view (Err fault) expected = MayFail fault expected
