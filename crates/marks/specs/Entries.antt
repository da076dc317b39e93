-- Numbers that were raised or read, each with its place.
use Rattle.std.specs.Prelude.{◌≡◌, ◌⊎◌, ℕ, ◌==◌, if◌then◌else◌, max, List, [], ◌∷◌}
use Rattle.std.specs.List.{Contains}
use Rattle.marks.specs.declared.rule.Entry.{Entry}

-- a number at a place
abbrev pub entry : (place number : ℕ) → Entry
entry place number = record { place = place; number = number }

-- the greatest number at a place, 0 where there is none
abbrev pub greatest : (place : ℕ) → List Entry → ℕ
greatest place [] = 0
greatest place (e ∷ es) = if e.place == place then max e.number (greatest place es) else greatest place es

-- the number is 0, at which marks begin, or it was raised at its place
abbrev pub WasRaised : (raised : List Entry) → Entry → Type 0
WasRaised raised e = (e.number ≡ 0) ⊎ Contains raised e
