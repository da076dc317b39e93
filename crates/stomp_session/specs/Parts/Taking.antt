-- Values that are taken out of a list of headers.
use Rattle.std.specs.Prelude.{ℕ, Bool, if◌then◌else◌, List, [], ◌∷◌}
use Rattle.std.specs.Str.{bytes_eq}
use Rattle.stomp_frame.specs.Frames.{Header}

-- whether a header has this name
abbrev pub is_named : List ℕ → Header → Bool
is_named name h = bytes_eq h.name name

-- the headers without the first of a name
abbrev pub without_first : List ℕ → List Header → List Header
without_first name [] = []
without_first name (h ∷ hs) = if is_named name h then hs else h ∷ without_first name hs
