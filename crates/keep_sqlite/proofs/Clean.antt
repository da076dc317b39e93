-- The disk was clean, where it is.
use Rattle.std.proofs.Common.{◌≡◌, ◌≤◌, ℕ, arith}

-- said once, since `omega` in an answer reads all that is known there
pub clean_before : (a b : ℕ) → a ≤ b → b ≡ 0 → a ≡ 0
clean_before a b more none = omega arith
