-- The line of `show`.
use Rattle.std.specs.Prelude.{◌≡◌, ℕ, ◌==◌, List, [], ◌∷◌, ◌++◌, codes, Option, Some, None, if◌then◌else◌}
use Rattle.std.specs.List.{flat_map}
use Rattle.base.specs.Entity.{Entity}
use Rattle.schedule_text.specs.Outcomes.{shown_entity}

-- how an octet of a state's words is printed, so that they stay on their line
abbrev pub on_one_line : ℕ → List ℕ
on_one_line octet = if octet == 10 then codes "\\n" else octet ∷ []

-- an entity with its escapes, then these words
abbrev pub row_line : Entity → (words : List ℕ) → List ℕ
row_line entity words = shown_entity entity ++ 32 ∷ flat_map on_one_line words ++ 10 ∷ []

-- the line of an entity with words of its state; where it has no row, with `none`
abbrev pub IsRow : {S : Type 0} → Entity → Option S → List ℕ → Type 0
IsRow entity (Some state) line = (words : List ℕ) × (line ≡ row_line entity words)
IsRow entity None line = line ≡ row_line entity (codes "none")
