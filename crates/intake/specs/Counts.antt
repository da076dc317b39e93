-- How many arrivals of each reader were taken.
use Rattle.std.specs.Prelude.{◌≡◌, ℕ, ◌+◌, ◌==◌, if◌then◌else◌, List, length}
use Rattle.intake.specs.declared.slip.Slip.{Slip}
use Rattle.intake.specs.declared.taken.Taken.{Taken}
use Rattle.intake.specs.Rule.{of_reader}

-- how many there are of each reader
pub record IsCountOf {M : Type 0} (got : List (Slip M)) (t : Taken) : Type 0 where
  pub zero : t.zero ≡ length (of_reader 0 got)
  pub one : t.one ≡ length (of_reader 1 got)

-- one more of a reader
abbrev pub HasOneMore : ℕ → Taken → Taken → Type 0
HasOneMore reader t u = (u.zero ≡ (if reader == 0 then t.zero + 1 else t.zero))
    × (u.one ≡ (if reader == 1 then t.one + 1 else t.one))
