-- The numbers of letters.
use Rattle.std.specs.Prelude.{ℕ, ◌<◌, ◌≤◌, Bool, ◌&&◌, nat_lt, nat_le}
use Rattle.base.specs.declared.limits.TheConstants.{MAX_NUMBER}

-- from 1 to 2^40, which is MAX_NUMBER
pub record IsNumber (n : ℕ) : Type 0 where
  pub positive : 0 < n
  pub small : n ≤ MAX_NUMBER

-- whether it is from 1 to 2^40
abbrev pub is_number : ℕ → Bool
is_number n = nat_lt 0 n && nat_le n MAX_NUMBER
