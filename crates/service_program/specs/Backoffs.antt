-- How long it is until connections are opened again.
use Rattle.std.specs.Prelude.{ℕ, ◌-◌, nat_le, min, if◌then◌else◌}
use Rattle.service_program.specs.declared.backoff.Backoff.{Backoff}
use Rattle.service_program.specs.Silences.{behind}

-- the pause after a pause: twice as long, 5 seconds at most
abbrev pub doubled : ℕ → ℕ
doubled pause = min (behind pause pause) 5000

-- the pause after a connection was cut: the shortest, if none was opened for 5 seconds
abbrev pub pause_at : Backoff → (now : ℕ) → ℕ
pause_at b now = if nat_le 5000 (now - b.opened) then 100 else b.pause
