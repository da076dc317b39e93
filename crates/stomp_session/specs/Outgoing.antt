-- Octets on their way out.
use Rattle.std.specs.Prelude.{ℕ, List}

-- those that weren't taken yet, and how many more fit without memory
pub record Pending : Type 0 where
  pub octets : List ℕ
  pub room : ℕ
