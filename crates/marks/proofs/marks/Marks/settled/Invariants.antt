use Rattle.std.proofs.Common.{◌≡◌, ◌<◌, ◌≤◌, length, ◌-◌, ℕ}
use Rattle.std.specs.Prelude.{slice_index}
use Rattle.marks.specs.declared.limits.TheConstants.{PLACES}
use Rattle.marks.specs.Rule.{IsSettled}
use Rattle.marks.proofs.marks.Marks.settled.Given as goal

-- the marks so far are settled
abbrev pub invariant-loop-place : goal.invariant-loop-place
invariant-loop-place l =
    (l.all.table_id ≡ l.self.table.shared.table_id) × (l.all.me ≡ l.fn.all.me) × (l.place ≤ l.self.places)
    × (length l.marks ≡ PLACES) × ((k : ℕ) → k < l.place → IsSettled k (slice_index l.marks k) l.fn.all.me.0)

abbrev pub decreases-loop-place : goal.decreases-loop-place
decreases-loop-place l = l.self.places - l.place
