use Rattle.std.proofs.Common.{◌≡◌, ℕ, ◌<◌, length, slice_get}
use Rattle.sql_rows.proofs.same.all_same.Given as goal

abbrev pub invariant-loop-one : goal.invariant-loop-one
invariant-loop-one g l = (length l.ones ≡ length l.others) × ((k : ℕ) → k < length l.yielded
    → slice_get l.ones k ≡ slice_get l.others k)
