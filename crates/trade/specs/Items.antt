-- What an order asks of stocks, and what of it can be asked.
use Rattle.std.specs.Prelude.{ℕ, Bool, true, ◌&&◌, not, nat_lt, nat_le, List, [], ◌∷◌, length}
use Rattle.std.specs.List.{list_any, list_all}
use Rattle.std.specs.Str.{bytes_eq}
use Rattle.base.specs.Number.{is_number}
use Rattle.base.specs.declared.limits.TheConstants.{MAX_LINES}
use Rattle.trade.specs.declared.items.Item.{Item}

-- so much of a stock
abbrev pub item : List ℕ → ℕ → Item
item stock n = record { stock = stock; quantity = n }

-- whether one of these items is of this stock
abbrev pub has_stock : List ℕ → List Item → Bool
has_stock stock is = list_any (λ (i : Item). bytes_eq i.stock stock) is

-- whether each item is of another stock
abbrev pub are_apart : List Item → Bool
are_apart [] = true
are_apart (i ∷ is) = not (has_stock i.stock is) && are_apart is

-- whether an order can have these lines: one to eight, each of another stock
abbrev pub are_lines : List Item → Bool
are_lines is = nat_lt 0 (length is) && nat_le (length is) MAX_LINES && are_apart is

-- whether each quantity is from 1 to 2^40
abbrev pub are_numbers : List Item → Bool
are_numbers is = list_all (λ (i : Item). is_number i.quantity) is
