-- What the words of a command line gave, by their matches.
use Rattle.std.specs.Prelude.{◌≡◌, ℕ, ◌^◌, Bool, true, false, ◌&&◌, nat_lt, if◌then◌else◌, List, codes, Option, Some, None}
use Rattle.std.specs.Prelude.{option_and_then}
use Rattle.std.specs.Str.Parse.{digits_value, without_leading_plus}
use Rattle.clap.specs.ValueTests.{is_numeral}
use Rattle.clap.specs.Words.{Row, Text, one_of}

-- the matches have this flag, or don't
abbrev pub IsFlag : Text → List Row → Bool → Type 0
IsFlag id rows flag = (one_of id rows ≡ Some (codes "true") → flag ≡ true)
    × (one_of id rows ≡ Some (codes "false") → flag ≡ false)

-- the number that a text writes, where it is one of so many bits; a plus may stand first
abbrev pub number_in : ℕ → Text → Option ℕ
number_in bits text =
    let digits = without_leading_plus text in
    if is_numeral digits && nat_lt (digits_value 10 digits) (2 ^ bits) then Some (digits_value 10 digits) else None

-- the number of so many bits that the matches have
abbrev pub number_of : ℕ → Text → List Row → Option ℕ
number_of bits id rows = option_and_then (number_in bits) (one_of id rows)
