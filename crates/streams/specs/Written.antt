-- What a write of octets leaves in a writer, where what it holds is known.
use Rattle.std.specs.Prelude.{◌≡◌, ℕ, List, ◌++◌, Option}
use Rattle.std.specs.Io.KnownBytes.{Appends}

-- a beginning of the octets was appended: a part, and not yet the rest
pub record AppendsPart (old new : Option (List ℕ)) (octets : List ℕ) : Type 0 where
  pub part : List ℕ
  pub rest : List ℕ
  pub whole : octets ≡ part ++ rest
  pub appended : Appends old new part
