-- What words of a line stand for.
use Rattle.std.specs.Prelude.{ℕ, List, Result, OkIff}
use Rattle.std.specs.Str.Parse.{IsNumeral, digits_value, without_leading_plus}

-- a number in decimal, behind a plus or none, is read where it fits, and nothing else is
abbrev pub ParsesWithin : {E : Type 0} → (ℕ → Type 0) → List ℕ → Result ℕ E → Type 0
ParsesWithin Fits word r =
    OkIff r (IsNumeral 10 (without_leading_plus word) × Fits (digits_value 10 (without_leading_plus word)))
    (digits_value 10 (without_leading_plus word))
