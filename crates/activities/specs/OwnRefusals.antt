-- Refusals that a business names itself.
use Rattle.std.specs.Prelude.{ℕ, ◌≤◌}
use Rattle.activities.specs.declared.own_refusal.OwnRefusal.{OwnRefusal}

-- the numbers that it may give them
abbrev pub IsOwnNumber : ℕ → Type 0
IsOwnNumber number = (75 ≤ number) × (number ≤ 99)

-- the refusal of a number
abbrev pub own : ℕ → OwnRefusal
own number = record { number = number }

-- the number of a refusal
abbrev pub own_number : OwnRefusal → ℕ
own_number refusal = refusal.number
