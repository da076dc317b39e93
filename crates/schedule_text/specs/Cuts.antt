-- A text, cut where an octet stands first.
use Rattle.std.specs.Prelude.{◌≡◌, ◌≢◌, ◌<◌, ℕ, List, ◌∷◌, ◌++◌, length, slice_index, Option, MatchOption}
use Rattle.std.specs.Borrow.{Bor}

-- the octet doesn't stand in the text
abbrev pub Lacks : ℕ → List ℕ → Type 0
Lacks o text = (i : ℕ) → i < length text → slice_index text i ≢ o

-- what stands before the first such octet, and what follows it; none where there is none
abbrev pub IsCut : ℕ → List ℕ → Option (Bor (List ℕ) × Bor (List ℕ)) → Type 0
IsCut o text answer =
    MatchOption answer (Lacks o text) (λ parts. (text ≡ parts.0.now ++ o ∷ parts.1.now) × Lacks o parts.0.now)

-- what follows the octet that begins the text; none where another does
abbrev pub IsRest : ℕ → List ℕ → Option (Bor (List ℕ)) → Type 0
IsRest o text answer = MatchOption answer ((rest : List ℕ) → text ≢ o ∷ rest) (λ rest. text ≡ o ∷ rest.now)
