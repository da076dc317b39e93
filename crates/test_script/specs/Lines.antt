-- Which lines have no answer of their own.
use Rattle.std.specs.Prelude.{ℕ, ◌==◌, List, Bool, length, slice_index, ◌||◌, if◌then◌else◌, codes}

-- a line that is printed as it is: it is empty, or begins with #
abbrev pub is_quiet : List ℕ → Bool
is_quiet line = (length line == 0) || (slice_index line 0 == 35)

-- what a call answers: what it gave, or that it is done
abbrev pub or_done : List ℕ → List ℕ
or_done text = if length text == 0 then codes "done" else text
