use Rattle.std.proofs.Common.{◌≡◌, ◌∙◌, ℕ, List, Option, Result, Ok, Err, inr}
use Rattle.std.specs.Prelude.{IfOk, OnErr}
use Rattle.std.specs.Io.KnownBytes.{Appends}
use Rattle.std.specs.Result.{result_unwrap_or}
use Rattle.std.specs.declared.io.Error.{Error}
use Rattle.streams.specs.Written.{AppendsPart}
use Rattle.streams.proofs.Writes.{part_whole}
use Rattle.schedule_stores.proofs.running.run_events_over_files.Goals as goal

-- the status is 1 whether the fault's line was written whole or in part
told_or_not : (old new : Option (List ℕ)) (line : List ℕ) (r : Result ℕ Error) (status : ℕ)
    → status ≡ result_unwrap_or r 1
    → IfOk r (λ s. (s ≡ 1) × Appends old new line) → OnErr r (AppendsPart old new line)
    → (status ≡ 1) × AppendsPart old new line
told_or_not old new line (Ok s) status is told untold = (is ∙ told.0, part_whole old new line told.1)
told_or_not old new line (Err e) status is told untold = (is, untold)

pub returns-in-Err : goal.returns-in-Err
returns-in-Err g c =
    let told = told_or_not _ _ _ c.tell_fault.result _ c.unwrap_or.ensures c.tell_fault.ensures.told
    c.tell_fault.ensures.untold in
    inr (told.0, c.in-Err.fault, c.in-Err.ensures, told.1)
