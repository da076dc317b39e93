-- Places in order of their numbers.
use Rattle.std.specs.Prelude.{ℕ, ◌<◌, ◌≤◌, Bool, List}
use Rattle.broker_index.specs.declared.places.KeyedPlace.{KeyedPlace}
use Rattle.broker_index.specs.Slots.{is_rising}

-- a place is before a number
abbrev pub IsBefore : ℕ → KeyedPlace → Type 0
IsBefore number p = p.number < number

-- a place is at a number or behind it
abbrev pub IsFrom : ℕ → KeyedPlace → Type 0
IsFrom number p = number ≤ p.number

-- whether the number of each place is below all that come behind it
abbrev pub are_rising : List KeyedPlace → Bool
are_rising ps = is_rising (λ (p : KeyedPlace). p.number) ps
