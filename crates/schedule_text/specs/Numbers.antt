-- The numbers of a line that have bounds.
use Rattle.std.specs.Prelude.{ℕ, ◌&&◌, nat_lt, nat_le, Option, Some, None, if◌then◌else◌}

-- the number of a seat
abbrev pub seat_number : ℕ → Option ℕ
seat_number n = if nat_lt n 16 then Some n else None

-- a place counted from 1
abbrev pub ordinal_number : ℕ → Option ℕ
ordinal_number n = if nat_lt 0 n then Some n else None

-- how many rounds are run at once: 1 to 100
abbrev pub rounds_number : ℕ → Option ℕ
rounds_number n = if nat_lt 0 n && nat_le n 100 then Some n else None
