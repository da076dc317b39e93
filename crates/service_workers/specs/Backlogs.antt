-- Since when new rows have to be looked at for letters to receivers of each kind.
use Rattle.std.specs.Prelude.{ℕ, ◌&&◌, ◌==◌, if◌then◌else◌, nat_lt, Option, Some, None}
use Rattle.service_workers.specs.declared.backlog.Backlog.{Backlog}
use Rattle.service_workers.specs.declared.backlog.Moment.{Moment}

-- since the look by which all was sent on this connection, where the journal has more rows now and no connection has changed
abbrev pub since : Option ℕ → (seen now : ℕ) → (known changes : ℕ) → Option Moment
since None seen now known changes = None
since (Some number) seen now known changes = if nat_lt seen now && (changes == known)
    then Some (record { number = number; rows = seen; changes = changes })
    else None

abbrev pub moment_of : Backlog → (rows changes : ℕ) → Option Moment
moment_of b rows changes = since b.whole b.rows rows b.changes changes

-- the one of two at which the journal had fewer rows
abbrev pub earlier : Option Moment → Option Moment → Option Moment
earlier None second = second
earlier (Some first) None = Some first
earlier (Some first) (Some second) = if nat_lt second.rows first.rows then Some second else Some first
