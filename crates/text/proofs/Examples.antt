-- Examples: numerals, and escapes of octets.
use Rattle.std.proofs.Common.{◌≡◌, ◌^◌, ◌-◌, ◌∷◌, [], refl}
use Rattle.std.specs.Prelude.{codes, Some, None}
use Rattle.text.specs.Escapes.{digit_of, digit, meant_by, hex, escaped, front, spelled, Spells}
use Rattle.text.specs.Numerals.{digits_number, number_of}

-- a number is written in one way: without leading zeros, a sign or anything else
numbers_are_written_in_one_way : (number_of (codes "12") ≡ Some 12) × (number_of (codes "0") ≡ Some 0)
    × (number_of (codes "012") ≡ None)
    × (number_of (codes "00") ≡ None) × (number_of (codes "+12") ≡ None) × (number_of (codes "-1") ≡ None)
    × (number_of [] ≡ None) × (number_of (codes "1a") ≡ None) × (number_of (codes " 1") ≡ None)
numbers_are_written_in_one_way = (refl, refl, refl, refl, refl, refl, refl, refl, refl)

-- up to 2^64 - 1
numbers_are_small : (number_of (codes "18446744073709551615") ≡ Some (2 ^ 64 - 1))
    × (number_of (codes "18446744073709551616") ≡ None)
numbers_are_small = (refl, refl)

-- digits may begin with zeros
digits_may_lead_with_zeros : (digits_number (codes "012") ≡ Some 12) × (digits_number (codes "000") ≡ Some 0)
    × (digits_number (codes "+12") ≡ None) × (digits_number [] ≡ None)
    × (digits_number (codes "00018446744073709551615") ≡ Some (2 ^ 64 - 1))
    × (digits_number (codes "18446744073709551616") ≡ None)
digits_may_lead_with_zeros = (refl, refl, refl, refl, refl, refl)

-- hexadecimal digits are small letters and figures
digits_have_values : (digit_of 48 ≡ Some 0) × (digit_of 57 ≡ Some 9) × (digit_of 97 ≡ Some 10)
    × (digit_of 102 ≡ Some 15)
    × (digit_of 47 ≡ None) × (digit_of 58 ≡ None) × (digit_of 96 ≡ None) × (digit_of 103 ≡ None) × (digit_of 65 ≡ None)
digits_have_values = (refl, refl, refl, refl, refl, refl, refl, refl, refl)

values_have_digits : (digit 0 ≡ 48) × (digit 9 ≡ 57) × (digit 10 ≡ 97) × (digit 15 ≡ 102)
values_have_digits = (refl, refl, refl, refl)

-- `7f` is 127, and `f7` another octet; a letter that is no digit makes none
two_digits_make_an_octet : (hex 55 102 ≡ Some 127) × (hex 102 55 ≡ Some 247) × (hex 103 55 ≡ None) × (hex 55 103 ≡ None)
two_digits_make_an_octet = (refl, refl, refl, refl)

-- behind a backslash `n`, `r`, `s`, `0` and a backslash mean an octet, and no other letter does
letters_mean_octets : (meant_by 110 ≡ Some 10) × (meant_by 114 ≡ Some 13) × (meant_by 115 ≡ Some 32)
    × (meant_by 48 ≡ Some 0)
    × (meant_by 92 ≡ Some 92) × (meant_by 116 ≡ None) × (meant_by 78 ≡ None)
letters_mean_octets = (refl, refl, refl, refl, refl, refl, refl)

-- an escape takes what it needs from the front; one that is cut is none
fronts_are_read : (front (codes "ab") ≡ Some (97, codes "b")) × (front (codes "\\nb") ≡ Some (10, codes "b"))
    × (front (codes "\\x41b") ≡ Some (65, codes "b")) × (front (codes "\\x4") ≡ None) × (front (codes "\\") ≡ None)
    × (front [] ≡ None)
fronts_are_read = (refl, refl, refl, refl, refl, refl)

cut_escapes_are_none : (escaped (codes "x4") ≡ None) × (escaped [] ≡ None) × (escaped (codes "t") ≡ None)
cut_escapes_are_none = (refl, refl, refl)

-- a text spells octets, one behind the other
a_text_is_spelled : Spells (codes "a\\n\\x00") (97 ∷ 10 ∷ 0 ∷ []) []
a_text_is_spelled = (_, refl, (_, refl, (_, refl, refl)))

-- what is printed of an octet: itself from a space to a tilde but for a backslash, and else an escape
octets_are_spelled : (spelled 97 ≡ codes "a") × (spelled 32 ≡ codes " ") × (spelled 126 ≡ codes "~")
    × (spelled 92 ≡ codes "\\\\")
    × (spelled 10 ≡ codes "\\n") × (spelled 13 ≡ codes "\\r") × (spelled 0 ≡ codes "\\x00")
    × (spelled 127 ≡ codes "\\x7f")
    × (spelled 31 ≡ codes "\\x1f") × (spelled 233 ≡ codes "\\xe9") × (spelled 171 ≡ codes "\\xab")
octets_are_spelled = (refl, refl, refl, refl, refl, refl, refl, refl, refl, refl, refl)
