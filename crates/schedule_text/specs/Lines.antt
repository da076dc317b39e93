-- The lines of a schedule.
use Rattle.std.specs.Prelude.{ℕ, ◌==◌, List, [], ◌∷◌, ◌++◌, length, if◌then◌else◌}
use Rattle.std.specs.List.{slice_split, flat_map}

-- the lines in the parts between LFs: an empty last part is none
abbrev pub lines_in : List (List ℕ) → List (List ℕ)
lines_in [] = []
lines_in (part ∷ []) = if length part == 0 then [] else part ∷ []
lines_in (part ∷ next ∷ parts) = part ∷ lines_in (next ∷ parts)

-- the lines of a text: each ends in LF, which the last may lack
abbrev pub lines_of : List ℕ → List (List ℕ)
lines_of text = lines_in (slice_split (λ o. o == 10) text)

-- lines one after another, each ended by LF
abbrev pub ended : List (List ℕ) → List ℕ
ended lines = flat_map (λ line. line ++ 10 ∷ []) lines
