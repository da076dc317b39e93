use Rattle.std.proofs.Common.{◌≡◌, ◌≤◌, [], length, vec_capacity, ◌+◌}
use Rattle.std.specs.List.{All}
use Rattle.marks.specs.Rule.{unused}
use Rattle.marks.specs.Seats.{IsSeatOf, raised_by, read_by}
use Rattle.marks.proofs.marks.Marks.deal.Given as goal

-- as many parts are left as seats are to be listed
abbrev pub invariant-loop-left : goal.invariant-loop-left
invariant-loop-left l =
    (l.first.table_id ≡ l.self.table.shared.table_id) × (l.first.me ≡ (unused l.left, [])) × (1 ≤ l.left)
    × (length l.list.items + l.left ≡ l.fn.seats) × (l.fn.seats ≤ vec_capacity l.list)
    × All (λ s. IsSeatOf l.self s × (raised_by s ≡ []) × (read_by s ≡ [])) l.list.items

abbrev pub decreases-loop-left : goal.decreases-loop-left
decreases-loop-left l = l.left
