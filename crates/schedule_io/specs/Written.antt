-- What is written of pairs.
use Rattle.std.specs.Prelude.{ℕ, List, [], ◌∷◌, ◌++◌, codes, decimal}
use Rattle.base.specs.declared.pair.Pair.{Pair}
use Rattle.schedule_text.specs.Outcomes.{shown_pair}

-- the line of words, a pair and a number
abbrev pub of_pair : List ℕ → Pair → ℕ → List ℕ
of_pair words pair number = words ++ shown_pair pair ++ (codes " " ++ decimal number ++ 10 ∷ [])
