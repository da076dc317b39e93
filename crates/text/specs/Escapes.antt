-- Octets as text of a line.
use Rattle.std.specs.Prelude.{◌≡◌, ◌==◌, ℕ, ◌+◌, ◌-◌, ◌*◌, ◌/◌, ◌%◌, nat_lt, nat_le, ◌&&◌, if◌then◌else◌, codes}
use Rattle.std.specs.Prelude.{List, [], ◌∷◌, Option, Some, None}
use Rattle.std.specs.Option.{option_map}

-- the value of a hexadecimal digit
abbrev pub digit_of : ℕ → Option ℕ
digit_of o =
    if nat_le 48 o && nat_le o 57 then Some (o - 48) else
    if nat_le 97 o && nat_le o 102 then Some (o - 87) else None

-- the hexadecimal digit of a value
abbrev pub digit : ℕ → ℕ
digit value = if nat_lt value 10 then 48 + value else 87 + value

-- the octet that a letter behind a backslash means
abbrev pub meant_by : ℕ → Option ℕ
meant_by letter =
    if letter == 92 then Some 92 else
    if letter == 110 then Some 10 else
    if letter == 114 then Some 13 else
    if letter == 115 then Some 32 else
    if letter == 48 then Some 0 else None

-- an octet by the values of its digits, where both are digits
abbrev pub of_values : Option ℕ → Option ℕ → Option ℕ
of_values None low = None
of_values (Some high) low = option_map (λ value. high * 16 + value) low

-- the octet of two hexadecimal digits
abbrev pub hex : ℕ → ℕ → Option ℕ
hex high low = of_values (digit_of high) (digit_of low)

-- the octet that two digits mean, and what follows them
abbrev pub by_digits : List ℕ → Option (ℕ × List ℕ)
by_digits (high ∷ low ∷ rest) = option_map (λ o. (o, rest)) (hex high low)
by_digits _ = None

-- the octet that what stands behind a backslash means, and what follows
abbrev pub escaped : List ℕ → Option (ℕ × List ℕ)
escaped [] = None
escaped (letter ∷ rest) = if letter == 120 then by_digits rest else option_map (λ o. (o, rest)) (meant_by letter)

-- the octet that the front of a text stands for, and what follows
abbrev pub front : List ℕ → Option (ℕ × List ℕ)
front [] = None
front (o ∷ rest) = if o == 92 then escaped rest else Some (o, rest)

-- a text stands for octets, and what is left: one front after the other
abbrev pub Spells : List ℕ → List ℕ → List ℕ → Type 0
Spells text [] left = text ≡ left
Spells text (o ∷ octets) left = (rest : List ℕ) × (front text ≡ Some (o, rest)) × Spells rest octets left

-- how an octet is printed
abbrev pub spelled : ℕ → List ℕ
spelled o =
    if o == 92 then codes "\\\\" else
    if o == 10 then codes "\\n" else
    if o == 13 then codes "\\r" else
    if nat_le 32 o && nat_le o 126 then o ∷ [] else 92 ∷ 120 ∷ digit (o / 16) ∷ digit (o % 16) ∷ []
