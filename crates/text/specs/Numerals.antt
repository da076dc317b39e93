-- Decimal numerals.
use Rattle.std.specs.Prelude.{ℕ, ◌^◌, ◌==◌, Bool, ◌&&◌, not, nat_lt, List, length, slice_index, Option, Some, None}
use Rattle.std.specs.Prelude.{if◌then◌else◌}
use Rattle.std.specs.List.{list_all}
use Rattle.std.specs.Char.{is_ascii_digit}
use Rattle.std.specs.Str.Parse.{digits_value}

-- digits, one or more
abbrev pub are_digits : List ℕ → Bool
are_digits text = list_all is_ascii_digit text && not (length text == 0)

-- the number that digits write: it is below 2^64
abbrev pub digits_number : List ℕ → Option ℕ
digits_number text =
    if are_digits text && nat_lt (digits_value 10 text) (2 ^ 64) then Some (digits_value 10 text) else None

-- a 0 with more behind it
abbrev pub has_leading_zero : List ℕ → Bool
has_leading_zero text = nat_lt 1 (length text) && (slice_index text 0 == 48)

-- digits without a leading zero
abbrev pub is_numeral : List ℕ → Bool
is_numeral text = are_digits text && not (has_leading_zero text)

-- the number that a text writes: such a numeral below 2^64
abbrev pub number_of : List ℕ → Option ℕ
number_of text = if is_numeral text && nat_lt (digits_value 10 text) (2 ^ 64) then Some (digits_value 10 text) else None
