-- Letters that wait for their turn.
use Rattle.std.specs.Prelude.{◌≡◌, ℕ, ◌+◌, ◌<◌, ⊤, Option, Some, None}
use Rattle.base.specs.declared.limits.TheConstants.{MAX_NUMBER}
use Rattle.base.specs.declared.pair.Pair.{Pair}
use Rattle.envelope.specs.declared.message.Letter.{Letter}
use Rattle.keep.specs.Tables.{Messages}

-- a letter that is found is the next of this pair, where so many were handled
abbrev pub IsNextOf : Pair → ℕ → Option Letter → Type 0
IsNextOf p handled (Some l) = (l.pair ≡ p) × (l.number ≡ handled + 1)
IsNextOf p handled None = ⊤

-- what is held of a pair under the next number: the letter that is found; or none, or no number is left
abbrev pub IsNextHeld : Messages → Pair → ℕ → Option Letter → Type 0
IsNextHeld held p handled (Some l) = held p (handled + 1) ≡ Some l.message
IsNextHeld held p handled None = handled < MAX_NUMBER → held p (handled + 1) ≡ None
