-- What one escape means.
use Rattle.std.specs.Prelude.{◌≡◌, ◌<◌, ℕ, List, ◌∷◌, Option, Some, None}
use Rattle.std.specs.Borrow.{Bor}
use Rattle.schedule_text.specs.Words.{meant_by}

-- the octet that the first letter means, an ASCII one, and what follows the letter; none where the letter means nothing
-- or is missing
abbrev pub IsUnescaped : List ℕ → Option (ℕ × Bor (List ℕ)) → Type 0
IsUnescaped after (Some found) =
    (letter : ℕ) × (after ≡ letter ∷ found.1.now) × (meant_by letter ≡ Some found.0) × (found.0 < 128)
IsUnescaped after None = (letter : ℕ) (rest : List ℕ) → after ≡ letter ∷ rest → meant_by letter ≡ None
