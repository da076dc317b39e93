-- What the texts of a request mean.
use Rattle.std.specs.Prelude.{ℕ, Bool, ◌&&◌, ◌||◌, ◌==◌, if◌then◌else◌, nat_le, List, length, take, drop, codes}
use Rattle.std.specs.Prelude.{Option, Some, None}
use Rattle.std.specs.List.{list_all}
use Rattle.std.specs.Str.{bytes_eq}
use Rattle.broker_book.specs.declared.parts.Mode.{Mode}
use Rattle.broker_book.specs.declared.parts.Mode.TheVariants.{Auto, Client, Individual}

-- the octets of a queue's name: ASCII letters, digits, `.`, `_`, `-` and `/`
abbrev pub is_letter : ℕ → Bool
is_letter o = (nat_le 97 o && nat_le o 122) || (nat_le 65 o && nat_le o 90) || (nat_le 48 o && nat_le o 57)
    || o == 46 || o == 95 || o == 45 || o == 47

-- `/queue/` and 1 to 64 of them
abbrev pub is_destination : List ℕ → Bool
is_destination d = nat_le 8 (length d) && nat_le (length d) 71 && bytes_eq (take 7 d) (codes "/queue/")
    && list_all is_letter (drop 7 d)

-- the acknowledge mode of a word
abbrev pub mode_of : List ℕ → Option Mode
mode_of word =
    if bytes_eq word (codes "auto") then Some Auto
    else if bytes_eq word (codes "client") then Some Client
    else if bytes_eq word (codes "client-individual") then Some Individual
    else None
