-- What a stamp says.
use Rattle.std.specs.Prelude.{ℤ}
use Rattle.timed_log.specs.declared.stamp.Stamp.{Stamp}

-- the nanoseconds from 1970-01-01T00:00:00Z to it
abbrev pub instant : Stamp → ℤ
instant stamp = stamp.time.nanosecond
