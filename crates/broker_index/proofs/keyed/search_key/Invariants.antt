use Rattle.std.proofs.Common.{◌≡◌, ℕ, Some, Contains}
use Rattle.slab.specs.Slab.{get}
use Rattle.broker_index.proofs.keyed.search_key.Given as goal

-- each value with the number is among the entries that are left, and each entry that is left is the slab's
abbrev pub invariant-loop-key : goal.invariant-loop-key
invariant-loop-key g l =
    (goal.iterator-loop-key g).can_next l.key-iterator ×
    (goal.iterator-loop-key g).is_finite l.key-iterator ×
    ((key : ℕ) (v : g.row.T.Denot) → (get l.slab key ≡ Some v) → g.T.Keyed.number_of v ≡ l.number
    → Contains l.key-iterator (key, v)) ×
    ((key : ℕ) (v : g.row.T.Denot) → Contains l.key-iterator (key, v) → get l.slab key ≡ Some v)
