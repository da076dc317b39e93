-- When a connection is given up, and why.
use Rattle.std.specs.Prelude.{ℕ, ◌+◌, ◌-◌, ◌^◌, nat_le, min, Bool, true, false, if◌then◌else◌}
use Rattle.service_program.specs.declared.pulse.Pulse.{Pulse}
use Rattle.service_program.specs.declared.pulse.Silence.{Silence}
use Rattle.service_program.specs.declared.pulse.Silence.TheVariants.{Unanswered, Quiet, Old}

-- so much later; no time is behind the last that a number tells
abbrev pub behind : (time span : ℕ) → ℕ
behind time span = min (time + span) (2 ^ 64 - 1)

-- from when on it's old
abbrev pub old_from : Pulse → ℕ
old_from p = behind p.opened 3600000

-- from when on it's given up
abbrev pub given_up_from : Pulse → (is_connected : Bool) → ℕ
given_up_from p true = min (behind p.heard 60000) (old_from p)
given_up_from p false = behind p.opened 10000

-- why it's given up
abbrev pub reason : Pulse → (is_connected : Bool) → (now : ℕ) → Silence
reason p false now = Unanswered
reason p true now = if nat_le (old_from p) now then Old else Quiet
