-- What a line of the standard input is.
use Rattle.std.specs.Prelude.{◌≡◌, ◌≢◌, ◌⊎◌, ℕ, true, List, [], ◌∷◌, ◌++◌, Bool, Option, Some, None}
use Rattle.std.specs.List.{All}

-- no LF stands among these octets
abbrev pub HasNoEnd : List ℕ → Type 0
HasNoEnd octets = All (λ octet. octet ≢ 10) octets

-- What is taken of a text: its first line, and the LF after it goes too; all of it, where there is no LF and no more comes; or
-- nothing, where there is no whole line, and then the text stays.
abbrev pub IsTaken : Bool → List ℕ → List ℕ → Option (List ℕ) → Type 0
IsTaken has_ended old new (Some line) =
    HasNoEnd line × ((old ≡ line ++ 10 ∷ new) ⊎ ((has_ended ≡ true) × (old ≡ line) × (new ≡ [])))
IsTaken has_ended old new None = HasNoEnd old × (new ≡ old) × (has_ended ≡ true → old ≡ [])
